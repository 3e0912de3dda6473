-- Integers in the making.
pub mod Rests
pub mod SignedBytes
pub mod UnsignedBytes
