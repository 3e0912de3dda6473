-- Runs of entries, told from the bytes that spell them.
pub mod FrontLemmas
pub mod LightLemmas
pub mod LongLemmas
pub mod BeforeLemmas
pub mod WideLemmas
pub mod FrontRun
pub mod HandedLemmas
pub mod FreeIntegers
pub mod FreeRun
pub mod IntegerFronts
