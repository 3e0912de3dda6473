-- Examples: what written fields denote, or their first fault, as the standard says it. Each stands under its text, in
-- which the tokens are numbered from 0 on.
mod Parts
mod Functions
mod Fields
mod Faults
