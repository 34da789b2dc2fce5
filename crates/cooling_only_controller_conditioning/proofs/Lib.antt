pub mod ByPieces
