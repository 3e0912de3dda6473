-- What private functions speak of.
pub mod Counted
pub mod Refused
pub mod Listed
