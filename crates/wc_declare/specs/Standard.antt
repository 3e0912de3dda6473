-- What contracts speak of: what fields declare as they are stored, their types, and what is wrong with both.
pub mod Spaces
pub mod Order
pub mod Inner
pub mod Types
pub mod Uses
pub mod Stages
