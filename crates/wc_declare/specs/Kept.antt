-- What private functions speak of.
pub mod Found
pub mod Seen
pub mod Rest
pub mod Declaring
pub mod Gathered
