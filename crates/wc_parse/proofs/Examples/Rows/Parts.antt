-- Fields.
pub mod Absent
pub mod Empty
pub mod Exports
pub mod Imports
pub mod Limits
pub mod Printed
pub mod Segments
pub mod TypeUses
