-- The UTF-8 of characters is a row of bytes.
use Rattle.std.proofs.Common.{◌≡◌, ℕ, ◌+◌, ◌/◌, ◌<◌, nat_lt, Bool, true, false, List, [], ◌∷◌, ◌++◌, refl, subst, arith}
use Rattle.std.proofs.Common.{IsUtf8}
use Rattle.std.specs.List.{AllByRecursion}
use lib.Utf8.{scalar, scalars, next, encode, encodes, scalar_cases}
use mathlib.Core.Bool.{cond, ◌&&◌}

abbrev pub IsByte : ℕ → Type 0
IsByte b = b < 256

bytes-append : (a b : List ℕ) → AllByRecursion IsByte a → AllByRecursion IsByte b → AllByRecursion IsByte (a ++ b)
bytes-append [] b h k = k
bytes-append (c ∷ a) b h k = (h.0, bytes-append a b h.1 k)

by-length : (c : ℕ) (x y z : Bool) → nat_lt c 128 ≡ x → nat_lt c 2048 ≡ y → nat_lt c 65536 ≡ z → c < 1114112
    → AllByRecursion IsByte (cond x (c ∷ []) (cond y ((192 + c / 64) ∷ next c ∷ [])
    (cond z ((224 + c / 4096) ∷ next (c / 64) ∷ next c ∷ [])
    ((240 + c / 262144) ∷ next (c / 4096) ∷ next (c / 64) ∷ next c ∷ []))))
by-length c true y z e f g lt = (grind arith, tt)
by-length c false true z e f g lt =
    let low : c < 2048 = grind arith in
    (omega (arith, low), (omega arith, tt))
by-length c false false true e f g lt =
    let low : c < 65536 = grind arith in
    (omega (arith, low), (omega arith, (omega arith, tt)))
by-length c false false false e f g lt = (omega (arith, lt), (omega arith, (omega arith, (omega arith, tt))))

low : (c : ℕ) → scalar c ≡ true → c < 1114112
low c e = let s = scalar_cases c e in omega (arith, s)

encode-bytes : (c : ℕ) → scalar c ≡ true → AllByRecursion IsByte (encode c)
unfolding encode
encode-bytes c e = by-length c (nat_lt c 128) (nat_lt c 2048) (nat_lt c 65536) refl refl refl (low c e)

left : (a b : Bool) → (a && b) ≡ true → a ≡ true
left true b e = refl
left false b e = e

right : (a b : Bool) → (a && b) ≡ true → b ≡ true
right true b e = e
right false b e = absurd cc

encodes-bytes : (cs : List ℕ) → scalars cs ≡ true → AllByRecursion IsByte (encodes cs)
encodes-bytes [] e = tt
encodes-bytes (c ∷ cs) e =
    bytes-append (encode c) (encodes cs) (encode-bytes c (left (scalar c) (scalars cs) e))
    (encodes-bytes cs (right (scalar c) (scalars cs) e))

pub utf8-bytes : (name : List ℕ) → IsUtf8 name → AllByRecursion IsByte name
utf8-bytes name u = subst (AllByRecursion IsByte) u.1.1 (encodes-bytes u.0 u.1.0)
