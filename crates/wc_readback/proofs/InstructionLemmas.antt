-- The kept tokens of printed instructions say these instructions.
pub mod Marks
pub mod Heads
pub mod Telling
pub mod Finished
