pub mod VerdictLemmas
pub mod SpaceLemmas
pub mod NameLemmas
pub mod HashLemmas
