-- What printed instructions say before their names are resolved.
pub mod Words
pub mod Bodies
