pub mod Standard
pub mod Reading
