pub mod Decimal
pub mod Meaning
