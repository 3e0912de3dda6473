-- What kept tokens say, production by production (Core 1.0, chapter 6). Tokens of a production that aren't kept, as
-- parentheses, say no more than which production it is; that they stand there, the grammar says.
pub mod Tokens
pub mod TypeUses
pub mod Plain
pub mod Instructions
pub mod Kept
