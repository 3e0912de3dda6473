pub mod Kinds
pub mod Productions
pub mod Meaning
pub mod Faults
pub mod Refused
pub mod Wholes
