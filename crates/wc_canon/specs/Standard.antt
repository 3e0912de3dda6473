-- What contracts speak of.
pub mod Comparing
pub mod Fixed
pub mod Input
pub mod Printing
pub mod Run
pub mod Text
