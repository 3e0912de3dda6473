-- Drafts, and what the builder keeps of them.
pub mod DraftLaws
pub mod BuildingLemmas
pub mod NeedsLemmas
pub mod BuilderLemmas
pub mod Runs
pub mod Finished
