pub mod Verdicts
pub mod Imports
pub mod Marks
pub mod Enough
pub mod Names
