pub mod PiRange
mod Pi
pub mod Timing
pub mod Loops
pub mod Co2Line
pub mod Flows
pub mod Damper
pub mod KeptBox
pub mod Numbers
pub mod Bounds
pub mod Suppression
pub mod Requests
pub mod Accepted
mod PublishedSame
mod PublishedSampleIndex
mod PublishedBlocks
pub mod PublishedStages
pub mod Signs
pub mod PublishedKept
pub mod PublishedAgrees
