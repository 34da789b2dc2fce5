pub mod Timing
pub mod TimingPieces
pub mod History
pub mod SamplerHistory
