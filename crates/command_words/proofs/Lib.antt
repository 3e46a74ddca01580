pub mod Agreement
pub mod Found
pub mod GivenUses
pub mod Numerals
pub mod Params
pub mod Reading
pub mod Twice
pub mod Wanted
