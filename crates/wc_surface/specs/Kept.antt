-- What the types keep.
pub mod Keyed
pub mod Building
pub mod Entries
pub mod Lengthening
pub mod Names
pub mod Parts
pub mod Rare
pub mod Bodies
pub mod Uses
pub mod Funcs
