pub mod HeadLaws
pub mod Exists
pub mod Unique
