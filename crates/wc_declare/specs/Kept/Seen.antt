-- Identifiers that were seen.
use Rattle.std.specs.Prelude.{◌≡◌, ℕ, zero, suc, List, [], ◌∷◌, Option, Some, is_some}
use Rattle.std.specs.List.{list_any}
use Rattle.wc_spaces.specs.declared.places.Places.{Places}
use Rattle.wc_spaces.specs.Kept.Places.{place_in}
use Rattle.wc_spaces.specs.Standard.Spaces.{is_named}
use Rattle.wc_surface.specs.Standard.Identifiers.{Identifier}

-- these are they
pub record HaveNames (ds : List (Option (List ℕ))) (seen : Places) : Type 0 where
  pub has : (q : List ℕ) → is_some (place_in seen q) ≡ list_any (is_named q) ds

-- an identifier so many times
abbrev pub copies : ℕ → Identifier → List (Option Identifier)
copies zero id = []
copies (suc n) id = Some id ∷ copies n id
