-- What contracts speak of: the module that the written fields of a text denote, and the first fault of their names, in
-- the standard's terms.
pub mod Contexts
pub mod Spaces
pub mod Types
pub mod Gathered
pub mod Uses
pub mod Instructions
pub mod Order
pub mod Functions
pub mod Inner
pub mod Imports
pub mod Exports
pub mod Ranges
pub mod Segments
pub mod Denoted
