-- What contracts speak of.
pub mod Faults
pub mod Texts
