-- What contracts speak of.
pub mod Acting
pub mod Asked
pub mod Carrying
pub mod Failing
pub mod Inputs
pub mod Looking
pub mod Program
pub mod Status
pub mod Telling
pub mod Turns
