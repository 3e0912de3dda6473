-- Entries by their bytes.
pub mod Integers
pub mod Unpacking
pub mod PutBytes
pub mod PackedLemmas
pub mod EntryLemmas
pub mod EntryBytes
pub mod PlaceLemmas
pub mod BodyRowLemmas
pub mod BriefLemmas
pub mod NumberedLemmas
