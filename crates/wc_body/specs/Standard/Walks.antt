-- What the ways over entries give that are faster than one entry at a time.
pub mod Short
pub mod Brief
pub mod Bounded
pub mod Numbered
