pub mod Remaining
pub mod Laws
pub mod Beside
pub mod MoreOf
