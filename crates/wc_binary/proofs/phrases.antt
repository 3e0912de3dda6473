-- Laws of phrases: what is read is what is spelled, or where it stops.
pub mod Told
pub mod AnyByte
pub mod Unsigned
pub mod Signed
pub mod Expressions
pub mod Laws
pub mod Forward
pub mod Freed
