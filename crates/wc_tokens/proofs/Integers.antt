pub mod Scans
pub mod DigitLaws
pub mod NumberLaws
pub mod Literals
