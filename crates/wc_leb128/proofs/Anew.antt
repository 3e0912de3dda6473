pub mod Again
pub mod Lengths
pub mod Marks
pub mod Respells
pub mod Unsigned
pub mod Values
