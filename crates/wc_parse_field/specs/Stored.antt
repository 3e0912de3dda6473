-- How the code stores the fields that a text says.
pub mod Fields
