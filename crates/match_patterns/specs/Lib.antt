pub mod Fits
pub mod Priority
pub mod Grouping
pub mod Walk
pub mod Laws
