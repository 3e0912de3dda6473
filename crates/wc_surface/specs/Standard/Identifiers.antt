-- Identifiers (Core 1.0, 6.3.5).
use Rattle.std.specs.Prelude.{ℕ, List}

-- the number of its token, and its bytes, the `$` among them
pub record Identifier : Type 0 where
  pub token : ℕ
  pub text : List ℕ

-- the identifier of these bytes, at the token of this number
abbrev pub identifier : ℕ → List ℕ → Identifier
identifier token text = record { token = token; text = text }
