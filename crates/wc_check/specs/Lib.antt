pub mod Standard
pub mod Judging
