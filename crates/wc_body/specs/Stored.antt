-- How the logic stores the values that contracts see.
pub mod Rebuilt
pub mod Codes
pub mod Instructions
