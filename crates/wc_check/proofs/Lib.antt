pub mod Lists
pub mod Walks
