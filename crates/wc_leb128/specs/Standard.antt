pub mod Integers
pub mod Shortest
pub mod Pushing
pub mod Laws
pub mod OneByte
