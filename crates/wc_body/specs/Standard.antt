-- What the standard says: nested instructions, their canonical bytes, and what they need; and drafts, of which the
-- builder's contract speaks.
pub mod Nested
pub mod Draft
pub mod Entries
pub mod Placed
pub mod Throughout
pub mod Pieces
pub mod ValueBytes
pub mod InstructionBytes
pub mod Needed
pub mod Walks
pub mod Spelled
pub mod Grammar
