-- Examples of the productions, at least one of each constructor: what these kept tokens say. Each stands under its
-- text, in which the tokens are numbered from 0 on.
mod Words
mod TypeUses
mod Plain
mod Instructions
mod Stored
