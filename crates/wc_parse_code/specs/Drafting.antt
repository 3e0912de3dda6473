-- What drafts hold: what one more kept token adds to what was said.
pub mod Words
pub mod Uses
pub mod Heads
pub mod Saying
pub mod Opening
pub mod Immediates
pub mod Taking
pub mod Ending
pub mod Sizes
pub mod Growing
pub mod Following
pub mod Leaving
