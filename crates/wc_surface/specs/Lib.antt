pub mod Standard
pub mod Kept
pub mod Stored
