-- Tokens, and the steps of derivations.
pub mod Comments
pub mod Grammar
pub mod Layout
pub mod Reading
pub mod Strings
pub mod Tokens
pub mod Words
