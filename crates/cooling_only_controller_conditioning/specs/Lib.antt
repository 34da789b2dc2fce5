pub mod Conditioning
pub mod ConditioningPieces
