-- The same, computed.
pub mod OpcodeMeaning
pub mod NameSlots
