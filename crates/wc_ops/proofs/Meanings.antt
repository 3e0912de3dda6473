-- Each byte and each name has one meaning, and the look-ups find it.
pub mod OneMeaning
pub mod OfBytes
pub mod OfTypes
pub mod OfNames
pub mod FloatNames
