pub mod Passed
pub mod Run
pub mod Opens
pub mod Ending
pub mod Growing
pub mod Accepted
pub mod Laws
pub mod Passing
