pub mod Codes
pub mod Drafts
mod Packing
