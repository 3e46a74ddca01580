mod Following
pub mod Sound
mod Ordered
mod Walk
mod Acts
mod Kept
pub mod Read
