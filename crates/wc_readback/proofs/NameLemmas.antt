-- The fields of a printed text denote the module that was printed.
pub mod Along
pub mod Declaring
pub mod Typing
pub mod Spots
pub mod InstructionsBack
pub mod BodiesBack
pub mod Counting
pub mod Checked
pub mod Gathering
pub mod Naming
pub mod Reading
