-- The canonical bytes, written out, and what private writers do.
pub mod Values
pub mod Locals
pub mod Contents
pub mod Sections
pub mod Writes
