-- Writing bytes entry by entry.
pub mod EntryBytes
