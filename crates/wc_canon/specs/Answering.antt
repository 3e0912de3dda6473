-- What private functions, conversions and proofs speak of on the way to an answer.
pub mod Faults
pub mod Sides
pub mod Steps
