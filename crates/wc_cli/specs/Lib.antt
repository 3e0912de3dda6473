pub mod Standard
pub mod Answering
