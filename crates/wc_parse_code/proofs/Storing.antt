-- What instructions say is what the code stores.
pub mod Words
pub mod States
pub mod TypeUses
pub mod Uses
pub mod Plain
pub mod Heads
pub mod Blocks
pub mod Instructions
pub mod Nested
pub mod Folded
pub mod Whole
pub mod Ordered
