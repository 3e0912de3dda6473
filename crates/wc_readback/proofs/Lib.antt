pub mod GrammarLemmas
pub mod InstructionLemmas
pub mod FieldLemmas
pub mod NameLemmas
