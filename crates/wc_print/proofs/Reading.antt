-- A printed text has the tokens, and says what it was printed from.
pub mod Apart
pub mod Lexing
pub mod Naming
pub mod ReadNumbers
pub mod ReadStrings
pub mod Words
