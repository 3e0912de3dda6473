-- What private functions speak of: text on its way out.
pub mod Briefly
pub mod Flows
pub mod Numbers
pub mod Outlet
pub mod Places
pub mod Short
