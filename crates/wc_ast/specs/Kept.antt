-- What the parts of a module keep.
pub mod Locals
pub mod CodeRow
pub mod Name
pub mod SizeRow
pub mod NameRow
pub mod ExternalRow
