pub mod Pieces
mod Putting
mod Laying
pub mod Forms
pub mod Turns
pub mod Counts
pub mod Bounds
mod PuttingBodies
mod Compiling
pub mod Sized
mod Acts
mod Lengths
pub mod Counting
pub mod Standing
mod Opening
mod Stepping
pub mod Forward
mod Backward
mod Seats
pub mod Wholes
