-- What contracts speak of.
pub mod Literals
pub mod Names
pub mod Numbers
pub mod Ranges
pub mod Strings
pub mod Symbols
pub mod Tokens
pub mod Words
