pub mod KeyLemmas
mod DraftLemmas
mod LocalLemmas
