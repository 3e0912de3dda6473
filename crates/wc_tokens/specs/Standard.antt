pub mod Digits
pub mod Numbers
pub mod Strings
pub mod Gaps
pub mod Lexemes
pub mod Faults
pub mod Tokens
pub mod Streams
