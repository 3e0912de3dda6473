pub mod Groups
mod Rows
pub mod Utf8Bytes
