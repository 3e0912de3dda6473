pub mod Eight
pub mod Respelled
pub mod State
