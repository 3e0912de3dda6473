pub mod Standard
pub mod Drafting
pub mod Stored
