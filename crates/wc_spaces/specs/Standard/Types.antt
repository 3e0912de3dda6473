-- The list of types (Core 1.0, 6.6.3 and 6.6.13): the types of the fields, and behind them each type that is written
-- where no index is, unless it is in the list. A type is told by its key.
use Rattle.std.specs.Prelude.{ℕ, List, [], ◌∷◌, ◌++◌, Option, is_some, if◌then◌else◌}
use Rattle.std.specs.List.{position_from}
use Rattle.std.specs.Str.{bytes_eq}

-- the smallest index of a type
abbrev pub index_of : List ℕ → List (List ℕ) → Option ℕ
index_of t ts = position_from (λ u. bytes_eq u t) 0 ts

-- the list with a type that is written where no index is
abbrev pub with_type : List (List ℕ) → List ℕ → List (List ℕ)
with_type ts t = if is_some (index_of t ts) then ts else ts ++ t ∷ []
