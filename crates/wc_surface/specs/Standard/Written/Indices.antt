-- Indices (Core 1.0, 6.6.1).
use Rattle.std.specs.Prelude.{ℕ}
use Rattle.wc_surface.specs.Standard.Identifiers.{Identifier}

-- index = u32 | id: a number, with the number of its token; or an identifier, which has that of its own
pub data Index : Type 0 where
  number : (token n : ℕ) → Index
  named : Identifier → Index
