-- What is kept of the list of types.
use Rattle.std.specs.Prelude.{◌≡◌, ℕ, List, length, map}
use Rattle.wc_spaces.specs.declared.types.Types.{Types}
use Rattle.wc_spaces.specs.Kept.Places.{place_in}
use Rattle.wc_spaces.specs.Standard.Types.{index_of}

-- how many there are
abbrev pub count_of : Types → ℕ
count_of types = length types.keys.items

-- these are in the list
pub record AreTypes (ts : List (List ℕ)) (types : Types) : Type 0 where
  pub listed : map (λ t. t.now) types.keys.items ≡ ts
  pub placed : (q : List ℕ) → place_in types.places q ≡ index_of q ts
