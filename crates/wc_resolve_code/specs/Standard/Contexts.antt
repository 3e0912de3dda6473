-- What is known around a body (Core 1.0, 6.1.3).
use Rattle.std.specs.Prelude.{ℕ, List, Option}

-- what is declared in an index space, in order, each with its identifier or with none; of labels the innermost first
abbrev pub Declared : Type 0
Declared = List (Option (List ℕ))

-- what is declared in each index space, parameters before locals; and of each type use of the body its type's index
pub record Context : Type 0 where
  pub funcs : Declared
  pub globals : Declared
  pub locals : Declared
  pub uses : List ℕ
