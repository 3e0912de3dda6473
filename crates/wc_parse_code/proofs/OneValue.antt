-- Kept tokens say one value: each part of an instruction, and instructions in order.
pub mod Literals
pub mod Parts
pub mod Plain
pub mod Reading
pub mod Structure
pub mod Same
