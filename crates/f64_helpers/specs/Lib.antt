pub mod F64
pub mod Helpers
pub mod Seconds
pub mod Integers
pub mod Ranges
