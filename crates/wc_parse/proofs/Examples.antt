-- Examples of what tokens say by the productions.
mod Texts
mod Rows
