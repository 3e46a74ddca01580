pub mod Held
pub mod Standing
pub mod Alone
pub mod Sources
pub mod Regions
pub mod Given
