pub mod Cases
pub mod Edges
