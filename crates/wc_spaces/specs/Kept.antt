-- What is kept of places, spaces, labels and types.
pub mod Places
pub mod Directory
pub mod Spaces
pub mod Labels
pub mod Types
