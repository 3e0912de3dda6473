pub mod Grammar
pub mod Instructions
pub mod Fields
pub mod Names
