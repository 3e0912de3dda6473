-- The tables of the standard: what each opcode, each byte and each name means.
pub mod ValueTypes
pub mod Opcodes
pub mod ByteMeaning
pub mod NameMeaning
