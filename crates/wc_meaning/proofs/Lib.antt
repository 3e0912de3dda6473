mod Examples
mod Lists
mod Spaced
mod Ordered
mod Listed
pub mod Joined
pub mod Single
pub mod Codes
mod Types
