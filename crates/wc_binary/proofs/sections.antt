-- Sections, one after the other: one module, one fault, always one of them.
pub mod Places
pub mod Rising
pub mod Order
pub mod Parts
pub mod Walk
pub mod OneModule
pub mod Total
