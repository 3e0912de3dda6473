-- A printed text is a text of the grammar, and each of its tokens is what it says.
pub mod Each
pub mod Symbols
pub mod Meaning
pub mod Parts
pub mod Codes
pub mod Modules
pub mod Same
pub mod Told
pub mod Standing
