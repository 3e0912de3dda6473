-- Functions, and what stands in them.
pub mod Bodies
pub mod Finding
pub mod Functions
pub mod Placing
pub mod Repeated
