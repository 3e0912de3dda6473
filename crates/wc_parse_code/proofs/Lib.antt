mod HeadLemmas
pub mod SizeLemmas
mod GrowthLemmas
mod Meanings
mod OpenLemmas
mod InstrLemmas
mod Examples
pub mod OneValue
pub mod Storing
pub mod SomeValue
