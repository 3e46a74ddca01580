pub mod Counting
pub mod Shaped
pub mod Standing
pub mod Setting
pub mod Kept
