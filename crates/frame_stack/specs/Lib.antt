pub mod Change
pub mod Counted
pub mod Frame
pub mod Laws
pub mod Level
pub mod Locals
pub mod Stack
