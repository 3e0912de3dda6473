-- Rows of codes, of functions, of sizes, of names, and of imports and exports.
pub mod CodeRowLemmas
pub mod FuncLemmas
pub mod SizeLemmas
pub mod NameLemmas
pub mod ExternalLemmas
