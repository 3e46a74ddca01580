pub mod QName
pub mod Scope
pub mod Tag
pub mod Laws
pub mod inside
