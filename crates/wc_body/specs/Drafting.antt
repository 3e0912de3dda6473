-- What bodies and their builder keep.
pub mod Staying
pub mod Kept
pub mod OpenParts
pub mod NeededAlong
pub mod PackedBody
pub mod Places
pub mod BodyRow
pub mod AtFront
pub mod LightRows
pub mod FrontEntries
pub mod WideRows
pub mod FreeEntries
