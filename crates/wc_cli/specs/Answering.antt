-- What private functions speak of on the way to an answer.
pub mod Reading
