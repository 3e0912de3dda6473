pub mod RangeLemmas
pub mod Forms
pub mod Spelling
pub mod OneValue
pub mod SomeValue
