pub mod Lines
pub mod WritingLines
pub mod LineBack
pub mod AllowedDecimals
pub mod NoLine
pub mod SmallLines
pub mod HeldFields
