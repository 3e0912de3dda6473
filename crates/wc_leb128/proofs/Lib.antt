pub mod Anew
pub mod Laws
pub mod Reading
pub mod Words
pub mod Writing
