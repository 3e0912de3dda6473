-- Type uses, and the list of types.
pub mod Judged
pub mod Keys
pub mod Typed
