pub mod Env
pub mod Held
pub mod Nodes
pub mod Setting
pub mod Steps
pub mod Value
