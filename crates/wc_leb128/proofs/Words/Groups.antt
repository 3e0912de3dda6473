-- The number that groups of seven bits are.
use Rattle.std.proofs.Common.{◌≡◌, ℕ, suc, ◌+◌, ◌-◌, ◌*◌, ◌%◌, ◌^◌, ◌<◌, ◌≤◌, ℤ, pos, ◌+ℤ◌, ◌-ℤ◌, ◌*ℤ◌, List, [], ◌∷◌}
use Rattle.std.proofs.Common.{◌⊎◌, inl, inr, length, bit_and, refl, ap, ◌∙◌, arith}
use Rattle.std.proofs.Math.Pow.{pow_mono}
use Rattle.std.proofs.lemmas.Bool.{cases_lt, lt-ltb, le-ltb}
use Rattle.std.proofs.lemmas.Int.{ints}
use Rattle.std.proofs.lemmas.Nat.{and_mask, mod-mul-add, one_shl, pow-add}
use native.Mathlib.Nat.{two-pow-succ}
use Rattle.wc_leb128.specs.Reading.Eight.{IsWhole, groups, signed_groups}
use Rattle.wc_leb128.proofs.Reading.Digits.{power_up}

one-more : (r g p : ℕ) → r < 128 → g < p → r + 128 * g < 128 * p
one-more r g p h k = omega arith

pub groups-below : (a : List ℕ) → groups a < 2 ^ (7 * length a)
groups-below [] = omega arith
groups-below (b ∷ bs) =
    rw (power_up (length bs)) (one-more (b % 128) (groups bs) (2 ^ (7 * length bs)) (omega arith) (groups-below bs))

-- ---- the highest bit as its sign

half-of : (n : ℕ) → 0 < n → 2 ^ (7 * suc n - 1) ≡ 128 * 2 ^ (7 * n - 1)
half-of n some =
    let e : 7 * suc n - 1 ≡ 7 + (7 * n - 1) = omega (arith, some) in
    rw (e, pow-add) refl

abbrev pub IsSigned : ℕ → ℕ → ℤ → Type 0
IsSigned h g z = ((g < h) × (z ≡ pos g)) ⊎ ((h ≤ g) × (z ≡ pos g -ℤ pos (2 * h)))

more-signed : (r g h : ℕ) (z : ℤ) → r < 128 → IsSigned h g z
    → IsSigned (128 * h) (r + 128 * g) ((pos 128 *ℤ z) +ℤ pos r)
more-signed r g h z lt (inl s) = let e = s.1 in let l = s.0 in inl (omega arith, omega (arith, ints, e))
more-signed r g h z lt (inr s) = let e = s.1 in let l = s.0 in inr (omega arith, omega (arith, ints, e))

pub signed-cases : (a : List ℕ) → IsWhole a → IsSigned (2 ^ (7 * length a - 1)) (groups a) (signed_groups a)
signed-cases [] h = absurd h
signed-cases (b ∷ []) (inr s) = absurd s.2
signed-cases (b ∷ []) (inl s) =
    let lt = s.0 in
    elim (cases_lt b 64) [
      | inl low ↦ rw (lt-ltb b 64 low) (inl (omega arith, omega (arith, ints)))
      | inr high ↦ rw (le-ltb b 64 high) (inr (omega arith, omega (arith, ints)))
    ]
signed-cases (b ∷ (c ∷ bs)) (inl s) = let e = s.1 in absurd cc
signed-cases (b ∷ (c ∷ bs)) (inr s) =
    rw (half-of (length (c ∷ bs)) (omega arith))
    (more-signed (b % 128) (groups (c ∷ bs)) _ _ (omega arith) (signed-cases (c ∷ bs) s.2))

turned-low : (g h r q : ℕ) → r ≡ 2 * h → g < h → (g + r * q + h) % r ≡ g + h
turned-low g h r q e lt =
    let f : g + r * q + h ≡ q * r + (g + h) = omega arith in
    ap (λ x. x % r) f ∙ mod-mul-add q r (g + h) (omega (arith, e, lt))

turned-high : (g h r q : ℕ) → r ≡ 2 * h → h ≤ g → g < r → (g + r * q + h) % r ≡ g - h
turned-high g h r q e le lt =
    let s : suc q * r ≡ q * r + r = omega arith in
    let f : g + r * q + h ≡ suc q * r + (g - h) = omega (arith, e, le, s) in
    ap (λ x. x % r) f ∙ mod-mul-add (suc q) r (g - h) (omega (arith, e, lt, le))

pub turned-back : (g h r q : ℕ) (z : ℤ) → r ≡ 2 * h → g < r → IsSigned h g z → pos ((g + r * q + h) % r) -ℤ pos h ≡ z
turned-back g h r q z e lt (inl s) =
    let m = turned-low g h r q e s.0 in let l = s.0 in let k = s.1 in rw m omega (arith, ints, k)
turned-back g h r q z e lt (inr s) =
    let m = turned-high g h r q e s.0 lt in let l = s.0 in let k = s.1 in rw m omega (arith, ints, k, e, l)

-- what the code has of them
pub record Halves (c : ℕ) : Type 0 where
  pub half : 1 * 2 ^ (7 * c - 1) % 18446744073709551616 ≡ 2 ^ (7 * c - 1)
  pub whole : 2 * 2 ^ (7 * c - 1) ≡ 2 ^ (7 * c)
  pub below : 2 ^ (7 * c) ≤ 72057594037927936

pub halves : (c : ℕ) → 0 < c → c ≤ 8 → Halves c
halves c some few =
    let e : 7 * c ≡ suc (7 * c - 1) = omega (arith, some) in
    let p : 2 ^ (7 * c) ≤ 2 ^ 56 = pow_mono {i = 7 * c} {j = 56} (omega (arith, few)) in
    let twice : 2 ^ (7 * c) ≡ 2 ^ suc (7 * c - 1) = ap (λ x. 2 ^ x) e in
    record {
      half = one_shl (7 * c - 1) 64 (omega (arith, few));
      whole = omega (arith, twice, two-pow-succ (7 * c - 1));
      below = p;
    }

-- under the mask of the groups
pub under-halves : (c x : ℕ) → Halves c
    → bit_and x (2 * (1 * 2 ^ (7 * c - 1) % 18446744073709551616) - 1) ≡ x % 2 ^ (7 * c)
under-halves c x h = rw (h.half, h.whole) (and_mask x (7 * c))
