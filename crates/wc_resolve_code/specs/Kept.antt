-- What is kept of what is known around a body, and of what is built.
pub mod Known
pub mod Opened
