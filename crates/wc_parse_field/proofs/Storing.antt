-- What fields say is what the code stores.
pub mod Taking
pub mod Parts
pub mod Code
pub mod Fields
pub mod Derived
