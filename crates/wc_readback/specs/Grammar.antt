-- What a printed text is to the grammar: which tokens it has, what each says, and which are kept.
pub mod Signs
pub mod InstructionSigns
pub mod FieldSigns
pub mod Kept
pub mod Fitting
