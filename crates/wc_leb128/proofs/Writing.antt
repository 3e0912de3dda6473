pub mod Groups
pub mod UnsignedShortest
pub mod SignedShortest
pub mod Lengths
pub mod SignedLengths
pub mod Written
