-- The canonical bytes of functions: their locals and instructions.
pub mod BlockTypes
pub mod Expressions
pub mod Instructions
pub mod Locals
pub mod MergedGroups
pub mod Opcodes
