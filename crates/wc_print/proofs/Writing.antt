-- How what is printed is put, piece behind piece.
pub mod Flowing
pub mod Going
pub mod Instructions
pub mod Numbering
pub mod Paging
pub mod Putting
pub mod Stringing
pub mod Values
pub mod Whole
