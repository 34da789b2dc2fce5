pub mod ByPieces
pub mod AlarmsByFan
pub mod FlowHigh
