-- The kept tokens of a printed text say its fields.
pub mod Taking
pub mod Lists
pub mod Coding
pub mod EachField
pub mod Whole
pub mod Syntax
