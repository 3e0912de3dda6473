-- The order of a text: that of the numbers of its tokens.
use Rattle.std.specs.Prelude.{ℕ, nat_lt, List, [], ◌∷◌, length, filter, if◌then◌else◌}

module _ {X : Type 0} (token : X → ℕ) where
  -- one more among these, in front of those that come later
  abbrev pub put : X → List X → List X
  put x [] = x ∷ []
  put x (y ∷ ys) = if nat_lt (token x) (token y) then x ∷ y ∷ ys else y ∷ put x ys

  -- these in the order of the text
  abbrev pub in_order : List X → List X
  in_order [] = []
  in_order (x ∷ xs) = put x (in_order xs)

  -- the place among these of the one at this token: how many come before it
  abbrev pub place_of : List X → ℕ → ℕ
  place_of xs t = length (filter (λ x. nat_lt (token x) t) xs)
