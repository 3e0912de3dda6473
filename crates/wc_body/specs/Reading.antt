-- Reading entries back from their bytes, computed.
pub mod Fronts
pub mod Unpacked
pub mod LabelItems
pub mod Briefly
pub mod Numbering
