pub mod Standard
pub mod Drafting
pub mod Reading
pub mod Writing
pub mod Stored
