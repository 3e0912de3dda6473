pub mod Listing
pub mod Shapes
pub mod Walking
