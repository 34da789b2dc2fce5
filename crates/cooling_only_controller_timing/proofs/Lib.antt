pub mod TrueDelayLaw
pub mod TimerLaw
pub mod SamplerLaw
pub mod UnitDelayLaw
pub mod Literals
