pub mod TextPieces
