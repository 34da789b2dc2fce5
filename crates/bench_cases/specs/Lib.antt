pub mod BenchCases
pub mod Thresholds
