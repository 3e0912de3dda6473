-- An integer and its shortest spelling, by the groups of seven bits of any other (Core 1.0, 5.2.2).
use Rattle.std.specs.Prelude.{◌≡◌, ℕ, suc, ◌+◌, ◌-◌, ◌*◌, ◌%◌, ◌^◌, ◌<◌, ◌≤◌, ℤ, pos, negsuc, Bool, if◌then◌else◌}
use Rattle.std.specs.Prelude.{List, [], ◌∷◌, length as size, take}
use Rattle.wc_leb128.specs.Writing.Bytes.{unsigned_bytes, signed_bytes}
use Rattle.wc_leb128.specs.Reading.Eight.{IsWhole, groups, signed_groups}

-- the bytes that have these groups, of which the last ends an integer
abbrev pub again : List ℕ → List ℕ
again [] = []
again (b ∷ []) = (b % 128) ∷ []
again (b ∷ (c ∷ bs)) = (128 + b % 128) ∷ again (c ∷ bs)

-- the bits of an integer, which are turned over in a negative one
abbrev pub turned : ℤ → ℕ
turned (pos n) = n
turned (negsuc n) = n

-- so many groups hold a number, and no fewer do
pub record HasGroups (n l : ℕ) : Type 0 where
  pub some : 0 < l
  pub enough : n < 2 ^ (7 * l)
  pub needed : (k : ℕ) → l ≡ suc (suc k) → 2 ^ (7 * suc k) ≤ n

-- the same of a number with a sign, of these bits
pub record HasSignedGroups (n l : ℕ) : Type 0 where
  pub some : 0 < l
  pub enough : n < 2 ^ (7 * l - 1)
  pub needed : (k : ℕ) → l ≡ suc (suc k) → 2 ^ (7 * suc k - 1) ≤ n

-- the bytes begin with an integer, with a sign or without one, of so many bytes; its shortest spelling has so many of
-- these
pub record IsRespelled (signed : Bool) (bytes : List ℕ) (value : ℤ) (count length : ℕ) (spelled : List ℕ) : Type 0 where
  pub enough : count ≤ size bytes
  pub few : count ≤ 8
  pub whole : IsWhole (take count bytes)
  pub is : value ≡ (if signed then signed_groups (take count bytes) else pos (groups (take count bytes)))
  pub short : length ≤ 8
  pub shortest : take length spelled
      ≡ (if signed then signed_bytes value else unsigned_bytes (groups (take count bytes)))
