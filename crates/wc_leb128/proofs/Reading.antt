pub mod SignedEnd
pub mod SignedPush
pub mod Digits
pub mod Push
pub mod AtFront
pub mod ShortFront
pub mod OneByte
pub mod Front
