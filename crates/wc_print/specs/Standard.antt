-- What contracts speak of.
pub mod Going
pub mod Layout
pub mod Lines
pub mod Printable
pub mod Printed
pub mod ReadAs
pub mod Sending
