pub mod ElementLaws
pub mod StringLaws
pub mod SimpleLaws
pub mod PlainLaws
pub mod ChunkLaws
pub mod PlaceLaws
