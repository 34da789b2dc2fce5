pub mod Decimals
pub mod NearestReading
pub mod ShortestDecimal
pub mod SmallReadings
