pub mod Rows
pub mod Counting
pub mod Answering
pub mod Staging
pub mod Walking
