pub mod BodyLemmas
pub mod BitLemmas
pub mod IsEnough
pub mod EnoughLemmas
pub mod RunLemmas
pub mod CommonLemmas
