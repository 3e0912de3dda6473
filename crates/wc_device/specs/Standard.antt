-- What contracts speak of.
pub mod Device
pub mod WriteCalls
