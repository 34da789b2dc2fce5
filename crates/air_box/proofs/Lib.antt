pub mod Demands
pub mod LeakFirst
pub mod NoDivision
pub mod Literals
