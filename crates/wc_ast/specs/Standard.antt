-- What the standard says of the locals of a function.
pub mod LocalGroups
pub mod Codes
pub mod Spelled
pub mod Externals
