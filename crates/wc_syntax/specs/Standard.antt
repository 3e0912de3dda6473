-- What contracts speak of.
pub mod Deriving
pub mod Fields
pub mod Grammar
pub mod Instead
pub mod Instructions
pub mod Parsing
pub mod Phrases
pub mod Reading
pub mod Reasons
pub mod Types
