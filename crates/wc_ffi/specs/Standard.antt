-- What contracts speak of.
pub mod Calls
pub mod Memory
