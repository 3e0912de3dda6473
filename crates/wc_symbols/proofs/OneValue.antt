-- A token is one symbol with one value.
pub mod SameNames
pub mod SameNumbers
pub mod SameSymbols
