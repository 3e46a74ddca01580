pub mod Texts
pub mod Taking
pub mod Fronts
pub mod Cores
