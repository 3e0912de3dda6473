-- What contracts speak of: the numbers that stand in place of identifiers, and the identifiers that nothing has.
pub mod Contexts
pub mod Operands
pub mod Instructions
pub mod Heads
pub mod Bodies
