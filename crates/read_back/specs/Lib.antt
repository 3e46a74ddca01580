pub mod Reading
pub mod Sound
pub mod Lexemes
pub mod Read
pub mod Laws
pub mod Paths
pub mod PathLaws
