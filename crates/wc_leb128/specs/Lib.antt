pub mod Standard
pub mod Reading
pub mod Writing
