-- What contracts speak of: what a text says, in the standard's terms (`Identifiers`, `Written`); and of what is stored
-- of it the keys of types, nested instructions, locals one by one, and sizes.
pub mod Identifiers
pub mod Keys
pub mod Marks
pub mod WrittenLocals
pub mod Sizes
pub mod Written
