-- How the logic stores the values that contracts see.
pub mod Codes
