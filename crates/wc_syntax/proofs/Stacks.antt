-- Stacks of phrases read tokens.
pub mod Edges
pub mod Ends
pub mod Exactness
pub mod Run
pub mod Shorter
