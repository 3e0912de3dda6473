-- Nested code: walks over its marks, what is written of it, and what spells it.
pub mod Walks
pub mod Emitting
pub mod ThroughoutLemmas
pub mod SpelledMark
pub mod Spelling
pub mod Reaching
