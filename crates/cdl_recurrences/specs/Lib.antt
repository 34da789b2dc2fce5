pub mod CdlRecurrences
pub mod CdlPieces
pub mod DeadBand
pub mod MemoryDecided
