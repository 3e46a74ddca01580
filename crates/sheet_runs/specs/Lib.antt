pub mod Counts
pub mod Reading
pub mod Runs
pub mod Talk
pub mod Meant
pub mod Writing
pub mod inside
