pub mod AirBox
pub mod NoAlarm
pub mod Demand1
pub mod Demand2
pub mod BenchTick
pub mod LeakFirst
pub mod NoDivision
