-- What contracts speak of: the module that fields denote as they are stored, and the first fault of their names.
pub mod Counts
pub mod Indices
pub mod Exports
pub mod Start
pub mod Imports
pub mod Ranges
pub mod Globals
pub mod Segments
pub mod Funcs
pub mod Denoted
