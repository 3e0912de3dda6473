-- Loops of readers.
pub mod Going
pub mod Behind
pub mod Entries
pub mod Times
pub mod Sized
pub mod Whole
pub mod Entry
pub mod Exact
pub mod Locals
pub mod ahead
pub mod integers
