-- What the code's rows have.
pub mod Placed
