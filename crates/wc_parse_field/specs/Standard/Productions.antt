-- What the kept tokens of fields say, production by production (Core 1.0, 6.6).
pub mod Parts
pub mod Fields
