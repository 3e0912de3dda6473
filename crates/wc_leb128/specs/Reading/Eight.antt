-- Bytes up to the end of an integer, and the seven bits of each (Core 1.0, 5.2.2).
use Rattle.std.specs.Prelude.{◌≡◌, ℕ, ◌+◌, ◌*◌, ◌%◌, ◌<◌, ◌≤◌, nat_lt, ℤ, pos, ◌+ℤ◌, ◌-ℤ◌, ◌*ℤ◌, List, [], ◌∷◌}
use Rattle.std.specs.Prelude.{◌⊎◌, if◌then◌else◌, length, take, ⊤}

-- each is a byte
abbrev pub AreBytes : List ℕ → Type 0
AreBytes [] = ⊤
AreBytes (b ∷ bs) = (b < 256) × AreBytes bs

-- none of these ends an integer
abbrev pub AreHigh : List ℕ → Type 0
AreHigh [] = ⊤
AreHigh (b ∷ bs) = (128 ≤ b) × AreHigh bs

-- no integer ends among the first eight bytes, or there are fewer
abbrev pub NoneEnds : List ℕ → Type 0
NoneEnds bytes = (length bytes < 8) ⊎ AreHigh (take 8 bytes)

-- the last alone is below 128
abbrev pub IsWhole : List ℕ → Type 0
IsWhole [] = ⊥
IsWhole (b ∷ bs) = ((b < 128) × (bs ≡ [])) ⊎ ((128 ≤ b) × (b < 256) × IsWhole bs)

-- the low seven bits of each, the first the lowest
abbrev pub groups : List ℕ → ℕ
groups [] = 0
groups (b ∷ bs) = b % 128 + 128 * groups bs

-- the same as a signed number, whose sign is the highest of these bits
abbrev pub signed_groups : List ℕ → ℤ
signed_groups [] = pos 0
signed_groups (b ∷ []) = if nat_lt b 64 then pos b else (pos b -ℤ pos 128)
signed_groups (b ∷ (c ∷ bs)) = (pos 128 *ℤ signed_groups (c ∷ bs)) +ℤ pos (b % 128)

-- an integer ends among the first eight bytes, which have these groups, and has so many bytes
pub record EndsAmong (bytes : List ℕ) (all count : ℕ) : Type 0 where
  pub enough : 8 ≤ length bytes
  pub few : count ≤ 8
  pub whole : IsWhole (take count bytes)
  pub all_groups : all ≡ groups (take 8 bytes)
