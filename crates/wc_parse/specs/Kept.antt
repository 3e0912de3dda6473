-- What private functions speak of.
pub mod Texts
pub mod Folds
pub mod SaidSoFar
pub mod Refusing
pub mod Passing
pub mod AllRead
