pub mod Stacks
pub mod Parser
pub mod Tabled
