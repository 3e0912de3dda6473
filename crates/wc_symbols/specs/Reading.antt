-- What private functions speak of: characters on the way to a value.
pub mod Shapes
pub mod Utf8
