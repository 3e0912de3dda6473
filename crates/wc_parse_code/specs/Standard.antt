-- What kept tokens say, by the grammar's productions.
pub mod Tokens
pub mod Derived
pub mod Productions
