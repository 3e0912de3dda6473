pub mod Scans
pub mod Numbers
pub mod Elements
pub mod Simple
pub mod Heads
pub mod Openings
pub mod Nexts
pub mod Stops
