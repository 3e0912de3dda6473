-- The shortest spellings, byte by byte. That they are the shortest is what `shortest_u` and `shortest_s` promise.
use Rattle.std.specs.Prelude.{ℕ, zero, suc, ◌+◌, ◌-◌, ◌/◌, ◌%◌, nat_lt, ℤ, pos, negsuc, Bool, true, false}
use Rattle.std.specs.Prelude.{if◌then◌else◌, List, [], ◌∷◌}

-- the seven low bits, and the others behind them, until no more than seven are left; `k` bounds how often
abbrev pub unsigned_within : ℕ → ℕ → List ℕ
unsigned_within zero n = n ∷ []
unsigned_within (suc k) n = if nat_lt n 128 then n ∷ [] else (128 + n % 128) ∷ unsigned_within k (n / 128)

-- the bytes of the shortest spelling of an unsigned integer
unfoldable pub unsigned_bytes : ℕ → List ℕ
unsigned_bytes n = unsigned_within n n

-- seven bits as they are, or each turned over
abbrev pub group_of : Bool → ℕ → ℕ
group_of false group = group
group_of true group = 127 - group

-- the same of a number from 0 on, or of the number whose bits are these turned over; a sign is left for the last byte
abbrev pub signed_within : Bool → ℕ → ℕ → List ℕ
signed_within negative zero n = group_of negative n ∷ []
signed_within negative (suc k) n =
    if nat_lt n 64
    then group_of negative n ∷ []
    else (128 + group_of negative (n % 128)) ∷ signed_within negative k (n / 128)

-- the bytes of the shortest spelling of a signed integer
unfoldable pub signed_bytes : ℤ → List ℕ
signed_bytes (pos n) = signed_within false n n
signed_bytes (negsuc n) = signed_within true n n

-- the number of these bits, or of these turned over
abbrev pub signed_of : Bool → ℕ → ℤ
signed_of false n = pos n
signed_of true n = negsuc n
