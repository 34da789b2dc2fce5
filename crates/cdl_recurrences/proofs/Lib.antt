pub mod DeadBandLaw
pub mod MemoryDecided
pub mod SampleGrid
pub mod Ranges
pub mod UnitLine
