pub mod Standard
pub mod Tables
