-- The tokens of a text, and those that are kept.
pub mod Forms
pub mod Kept
pub mod Seen
pub mod Streams
pub mod StringTokens
pub mod Strings
