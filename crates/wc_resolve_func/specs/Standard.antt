-- What contracts speak of: the functions and the constant expressions that fields have as they are stored.
pub mod Locals
pub mod Contexts
pub mod Constants
pub mod Funcs
pub mod Fitting
