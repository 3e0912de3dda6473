-- What private readers answer over a source of bytes.
pub mod Reading
pub mod Source
pub mod NextMark
pub mod NextItem
pub mod NextCode
pub mod Feed
pub mod Modules
