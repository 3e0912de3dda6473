-- The states of the parser.
pub mod Machine
pub mod Parses
pub mod States
pub mod Terminals
