-- The canonical bytes: they are canonical, and all others are longer.
pub mod Judging
pub mod Phrases
pub mod Types
pub mod Codes
pub mod Encoding
pub mod Measuring
pub mod code
pub mod whole
