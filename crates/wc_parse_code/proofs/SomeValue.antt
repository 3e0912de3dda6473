-- The kept tokens of derived instructions say a value.
pub mod Spoken
pub mod Phrases
pub mod Rules
pub mod Instructions
