pub mod Pairs
mod Examples
pub mod Saying
pub mod Sizing
pub mod Tokens
