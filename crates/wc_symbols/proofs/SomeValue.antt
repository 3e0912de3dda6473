-- Each token is some symbol with some value.
pub mod SomeNames
pub mod SomeNumbers
pub mod SomeSymbols
