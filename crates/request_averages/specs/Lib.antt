pub mod RequestAverages
pub mod AveragesText
pub mod Pieces
pub mod ExactAverages
pub mod Outcomes
pub mod SmallNights
