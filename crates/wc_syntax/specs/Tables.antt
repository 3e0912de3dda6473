-- What private functions speak of: the table of the parser.
pub mod Kinds
pub mod Parts
pub mod Table
pub mod Usual
