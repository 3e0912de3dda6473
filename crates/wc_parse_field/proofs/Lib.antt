mod NameLemmas
mod Examples
pub mod OneValue
pub mod SomeValue
pub mod Storing
