pub mod Standard
pub mod Kept
