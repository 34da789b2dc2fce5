pub mod Tests
mod Values
mod Casts
mod Floors
mod Negation
mod LargerOfTwo
mod Signs
mod WholeTest
pub mod Times
pub mod Meaning
pub mod WholeSeconds
pub mod Quotients
pub mod Order
pub mod Std
pub mod Sums
pub mod Integers
pub mod Monotone
pub mod Intervals
pub mod SignedZeros
pub mod EqualNumbers
pub mod ExactDifferences
pub mod LargeDifferences
