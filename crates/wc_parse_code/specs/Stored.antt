-- How the code stores what a text says: instructions in a row, and what they name by places in rows of its own.
pub mod Order
pub mod TypeUses
pub mod Rows
pub mod Bodies
