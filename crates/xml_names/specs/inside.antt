pub mod Parts
pub mod Plain
pub mod InForce
pub mod Scopes
