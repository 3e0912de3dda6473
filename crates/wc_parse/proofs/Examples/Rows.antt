-- Whole texts.
mod Instructions
mod Parts
mod Lexed
