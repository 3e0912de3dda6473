pub mod Rules
pub mod Spaces
pub mod SizeRules
pub mod InstructionRules
pub mod ConstantRules
pub mod ExportRules
pub mod SegmentRules
pub mod Broken
