-- Examples of the productions of fields, at least one of each constructor: what these kept tokens say; and of fields as
-- they are stored. Each stands under its text, in which the tokens are numbered from 0 on.
mod Names
mod Parts
mod Fields
mod Stored
