pub mod Standard
pub mod Stored
