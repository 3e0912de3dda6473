-- Instructions.
pub mod BlockTypes
pub mod Calls
pub mod Constants
pub mod Deep
pub mod DeepFolded
pub mod Folded
pub mod Labels
pub mod Repeated
