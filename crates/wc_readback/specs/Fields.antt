-- The fields that a printed text says.
pub mod Items
pub mod Surface
