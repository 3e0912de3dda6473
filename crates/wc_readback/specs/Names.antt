-- Modules of which the names of the printed text are known.
pub mod Known
