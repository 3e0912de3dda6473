-- The table says what the grammar says.
pub mod Agreement
pub mod Parts
pub mod PlaceList
pub mod Places
pub mod Tabling
pub mod Usual
pub mod Validity
