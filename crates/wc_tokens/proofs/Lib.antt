pub mod Integers
pub mod Escapes
pub mod Comments
pub mod Decided
pub mod Lexing
