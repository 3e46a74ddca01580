pub mod Parts
pub mod Sound
pub mod Back
pub mod Laws
