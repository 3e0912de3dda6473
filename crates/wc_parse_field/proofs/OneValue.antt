-- Kept tokens say one value: each part of a field, and fields in order.
pub mod Cutting
pub mod Places
pub mod Parts
pub mod Given
pub mod Descs
pub mod Fields
