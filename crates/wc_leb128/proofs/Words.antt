pub mod EightFront
pub mod Ends
pub mod Groups
pub mod Masks
pub mod Sevens
