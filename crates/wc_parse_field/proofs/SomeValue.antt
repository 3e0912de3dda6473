-- The kept tokens of derived fields say a value.
pub mod Strings
pub mod Parts
pub mod Fields
