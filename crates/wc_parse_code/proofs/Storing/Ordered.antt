-- What is stored stands in the order of the text.
pub mod Derived
pub mod Following
pub mod Order
pub mod Placing
pub mod Rising
pub mod Rows
