pub mod Spellings
pub mod Exact
pub mod UnsignedLaws
pub mod SignedLaws
