-- A text says no more than it has bytes.
pub mod Few
pub mod Sizes
pub mod Weights
