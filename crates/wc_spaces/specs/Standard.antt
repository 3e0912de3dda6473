-- What contracts speak of: the least of faults, the places of identifiers and labels, and the list of types by their
-- keys. Of these, what a text denotes is told by the first two.
pub mod Least
pub mod Spaces
pub mod Types
