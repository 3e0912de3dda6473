pub mod Standard
pub mod Writing
