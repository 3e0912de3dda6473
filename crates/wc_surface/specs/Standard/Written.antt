-- What a text says, in the standard's terms (Core 1.0, chapter 6): inline forms as they are written, and folded
-- instructions as the unfolded ones that they mean. With the number of its token among all of the text stands each
-- identifier, each index, the type of each declared local, each word `import`, `call_indirect`, `block`, `loop` and
-- `if`, and the word of each field `func` or `start`. Names, limits, offsets, alignments and constants stand without.
pub mod Indices
pub mod TypeUses
pub mod Instructions
pub mod Fields
