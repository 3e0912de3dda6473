-- The canonical bytes of sections and of modules.
pub mod Chain
pub mod Contents
pub mod Externals
pub mod ModuleBytes
pub mod Modules
pub mod Sections
