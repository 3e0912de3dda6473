-- What tokens say, and that it is stored.
pub mod Answering
pub mod Joined
pub mod Externals
pub mod Passing
pub mod Said
pub mod Usual
pub mod Wholes
pub mod Written
