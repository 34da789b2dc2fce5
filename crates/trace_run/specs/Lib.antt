pub mod TraceRun
pub mod OneBox
pub mod OneSecond
pub mod SensorCodes
pub mod SmallTraces
