-- Groups of locals.
pub mod GroupLemmas
