-- Bytes that lie ahead, and what is added of them at once.
pub mod Feeding
pub mod FrontCode
pub mod FrontEntries
pub mod FrontItems
pub mod Fronts
