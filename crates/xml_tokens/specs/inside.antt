pub mod Spans
pub mod Simple
pub mod PlainTags
pub mod Resume
pub mod Look
pub mod Lexer
