pub mod OpenShut
pub mod ByParts
pub mod DemandInC
