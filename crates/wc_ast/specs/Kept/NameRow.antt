-- What a row of names keeps: the bytes of all of them, and of each how many they are.
use Rattle.std.specs.Prelude.{◌≡◌, ◌≤◌, ℕ, List, [], ◌∷◌, length, take, drop}
use Rattle.std.specs.Str.{IsUtf8}

-- the names of these sizes that stand in the bytes, one after the other
abbrev pub names_at : List ℕ → List ℕ → List (List ℕ)
names_at [] x = []
names_at (n ∷ ns) x = take n x ∷ names_at ns (drop n x)

-- the bytes are those of names of these sizes, one after the other, and of no more
abbrev pub AreNames : List ℕ → List ℕ → Type 0
AreNames [] x = x ≡ []
AreNames (n ∷ ns) x = (n ≤ length x) × IsUtf8 (take n x) × AreNames ns (drop n x)
