pub mod Writing
pub mod Reading
pub mod Tables
