-- What contracts speak of: the binary format (Core 1.0, chapter 5), its faults, and what decoding and encoding answer.
pub mod Style
pub mod Expression
pub mod Phrase
pub mod Values
pub mod Types
pub mod Externals
pub mod Instructions
pub mod Locals
pub mod Contents
pub mod Sections
pub mod Module
pub mod Decoding
pub mod Encoding
