-- What a row of sizes keeps: a mark of each, and the large sizes.
use Rattle.std.specs.Prelude.{◌≡◌, ℕ, suc, List, [], ◌∷◌, length, nat_lt, if◌then◌else◌}

-- the mark of a large size; it is the least of these
abbrev pub large_mark : ℕ
large_mark = 255

-- the mark of a size: itself, where it is small
abbrev pub mark_of : ℕ → ℕ
mark_of n = if nat_lt n large_mark then n else large_mark

-- the size, where it is large
abbrev pub large_of : ℕ → List ℕ
large_of n = if nat_lt n large_mark then [] else n ∷ []

-- the sizes of these marks, where the large ones are these, in order
abbrev pub sizes_at : List ℕ → List ℕ → List ℕ
sizes_at [] ls = []
sizes_at (m ∷ ms) [] = m ∷ sizes_at ms []
sizes_at (m ∷ ms) (l ∷ ls) = if nat_lt m large_mark then m ∷ sizes_at ms (l ∷ ls) else l ∷ sizes_at ms ls

-- how many of these are marks of large sizes
abbrev pub large_count : List ℕ → ℕ
large_count [] = 0
large_count (m ∷ ms) = if nat_lt m large_mark then large_count ms else suc (large_count ms)

-- there is a large size for each mark of one, and no more
abbrev pub AreSizes : List ℕ → List ℕ → Type 0
AreSizes ms ls = length ls ≡ large_count ms
