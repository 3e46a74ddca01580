pub mod Ends
pub mod Standing
pub mod Looking
pub mod Laws
