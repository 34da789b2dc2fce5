pub mod Limits
pub mod Kept
pub mod EveryNumber
pub mod Bounds
pub mod PublishedHelpers
pub mod PublishedController
pub mod PublishedAgrees
