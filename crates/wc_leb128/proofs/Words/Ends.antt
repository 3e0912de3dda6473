-- The first byte of a word that is below 128.
use Rattle.std.proofs.Common.{◌≡◌, ℕ, zero, suc, ◌+◌, ◌-◌, ◌*◌, ◌/◌, ◌%◌, ◌^◌, ◌<◌, ◌≤◌, List, [], ◌∷◌, length, map}
use Rattle.std.proofs.Common.{take, bit_and, add-one, inl, inr, refl, ap, ◌∙◌, arith, if◌then◌else◌, nat_lt}
use Rattle.std.specs.Int.Bits.{bit_xor}
use Rattle.std.specs.Int.Count.{count_trailing_zeros}
use Rattle.std.specs.Simd.Lanes.{number_l}
use Rattle.std.proofs.lemmas.Bool.{cases_lt, lt-ltb, le-ltb}
use Rattle.std.proofs.lemmas.Nat.Bits.{and_pow}
use Rattle.std.proofs.lemmas.Nat.{and_le_r}
use native.Mathlib.Nat.{two-pow-succ}
use Rattle.wc_leb128.specs.Reading.Eight.{AreBytes, AreHigh, IsWhole}
use Rattle.wc_leb128.proofs.Words.Masks.{AreBelow, digits-under, digits-turned}

-- the top bit, turned
abbrev mark : ℕ → ℕ
mark b = if nat_lt b 128 then 128 else 0

low-mark : (b : ℕ) → b < 128 → bit_xor (bit_and b 128) 128 ≡ 128
low-mark b lt =
    let e = and_pow b 7 in
    let top : b / 128 ≡ 0 = omega (arith, lt) in
    let none : bit_and b 128 ≡ 0 = e ∙ ap (λ x. x % 2 * 128) top in
    ap (λ x. bit_xor x 128) none

high-mark : (b : ℕ) → 128 ≤ b → b < 256 → bit_xor (bit_and b 128) 128 ≡ 0
high-mark b le lt =
    let e = and_pow b 7 in
    let top : b / 128 ≡ 1 = omega (arith, le, lt) in
    let all : bit_and b 128 ≡ 128 = e ∙ ap (λ x. x % 2 * 128) top in
    ap (λ x. bit_xor x 128) all

-- ---- zeros below a bit

odd-none : (k n : ℕ) → count_trailing_zeros k (1 + 2 * n) ≡ 0
unfolding count_trailing_zeros
odd-none zero n = refl
odd-none (suc k) n = let e : (1 + 2 * n) % 2 ≡ 1 = omega arith in rw e refl

even-more : (k n : ℕ) → count_trailing_zeros (suc k) (2 * n) ≡ suc (count_trailing_zeros k n)
unfolding count_trailing_zeros
even-more k n =
    let e : 2 * n % 2 ≡ 0 = omega arith in
    let f : 2 * n / 2 ≡ n = omega arith in
    rw (e, f) refl

twice : (x n : ℕ) → (x + x) * n ≡ 2 * (x * n)
twice x n = omega arith

zeros-more : (j k m n : ℕ) → m ≡ j + k → count_trailing_zeros m (2 ^ j * n) ≡ j + count_trailing_zeros k n
zeros-more zero k m n is =
    let e : 2 ^ 0 * n ≡ n = omega arith in
    let f : m ≡ k = omega (arith, is) in
    let g : count_trailing_zeros k n ≡ 0 + count_trailing_zeros k n = omega arith in
    rw (e, f) g
zeros-more (suc j) k m n is =
    let e : 2 ^ suc j * n ≡ 2 * (2 ^ j * n) = ap (λ x. x * n) (two-pow-succ j) ∙ twice (2 ^ j) n in
    let f : m ≡ suc (j + k) = omega (arith, is) in
    let one = even-more (j + k) (2 ^ j * n) in
    let more = zeros-more j k (j + k) n refl in
    rw (e, f) omega (arith, one, more)

-- ---- the first byte below 128

abbrev marks : List ℕ → ℕ
marks bs = number_l 256 (map mark bs)

ends-first : (k r : ℕ) → 8 ≤ k → count_trailing_zeros k (128 + 256 * r) / 8 ≡ 0
ends-first k r le =
    let e : 128 + 256 * r ≡ 2 ^ 7 * (1 + 2 * r) = omega arith in
    let f = zeros-more 7 (k - 7) k (1 + 2 * r) (omega (arith, le)) in
    let g = odd-none (k - 7) r in
    rw e omega (arith, f, g)

ends-later : (k r : ℕ) → 8 ≤ k → count_trailing_zeros k (0 + 256 * r) / 8 ≡ suc (count_trailing_zeros (k - 8) r / 8)
ends-later k r le =
    let e : 0 + 256 * r ≡ 2 ^ 8 * r = omega arith in
    let f = zeros-more 8 (k - 8) k r (omega (arith, le)) in
    rw e omega (arith, f)

first-end : (bs : List ℕ) (k t : ℕ) → AreBytes bs → 8 * length bs ≤ k → 0 < marks bs
    → t ≡ count_trailing_zeros k (marks bs) / 8 → (t < length bs) × IsWhole (take (suc t) bs)
first-end [] k t h le some is = absurd (omega (arith, some))
first-end (b ∷ bs) k t h le some is =
    elim (cases_lt b 128) [
      | inl lt ↦
          let z : t ≡ 0 = is ∙ rw (lt-ltb b 128 lt) (ends-first k (marks bs) (omega (arith, le))) in
          rw z (omega arith, inl (lt, refl))
      | inr ge ↦
          let e : t ≡ suc (count_trailing_zeros (k - 8) (marks bs) / 8) =
          is ∙ rw (le-ltb b 128 ge) (ends-later k (marks bs) (omega (arith, le))) in
          let more : 0 < marks bs = let s = rw (le-ltb b 128 ge) at some in omega (arith, s) in
          let r = first-end bs (k - 8) _ h.1 (omega (arith, le)) more refl in
          rw e (omega (arith, r.0), inr (ge, h.0, r.1))
    ]

marks-found : (bs : List ℕ) → AreBytes bs → map (λ x. bit_xor x 128) (map (λ x. bit_and x 128) bs) ≡ map mark bs
marks-found [] h = refl
marks-found (b ∷ bs) h =
    elim (cases_lt b 128) [
      | inl lt ↦ rw (low-mark b lt, marks-found bs h.1, lt-ltb b 128 lt) refl
      | inr ge ↦ rw (high-mark b ge h.0, marks-found bs h.1, le-ltb b 128 ge) refl
    ]

are-below : (bs : List ℕ) → AreBytes bs → AreBelow 256 bs
are-below [] h = tt
are-below (b ∷ bs) h = (h.0, are-below bs h.1)

tops-below : (bs : List ℕ) → AreBytes bs → AreBelow 256 (map (λ x. bit_and x 128) bs)
tops-below [] h = tt
tops-below (b ∷ bs) h = (omega (arith, and_le_r b 128), tops-below bs h.1)

abbrev tops : ℕ
tops = 0x8080_8080_8080_8080

marks-are : (word : ℕ) (bytes : List ℕ) → length bytes ≡ 8 → AreBytes bytes → word ≡ number_l 256 bytes
    → bit_xor (bit_and word tops) tops ≡ marks bytes
marks-are word (b0 ∷ b1 ∷ b2 ∷ b3 ∷ b4 ∷ b5 ∷ b6 ∷ b7 ∷ []) n h e =
    let bs = b0 ∷ b1 ∷ b2 ∷ b3 ∷ b4 ∷ b5 ∷ b6 ∷ b7 ∷ [] in
    let under = ap (λ x. bit_and x tops) e ∙ digits-under 8 128 bs (omega arith) (are-below bs h) in
    let turned = ap (λ x. bit_xor x tops) under
    ∙ digits-turned 8 128 (map (λ x. bit_and x 128) bs) (omega arith) (tops-below bs h) in
    turned ∙ ap (number_l 256) (marks-found bs h)
marks-are word bytes n h e = absurd cc

pub counted-to-end : (word : ℕ) → (bit_xor (bit_and word tops) tops ≡ 0 → ⊥) → (bytes : List ℕ) → length bytes ≡ 8
    → AreBytes bytes → word ≡ number_l 256 bytes
    → let n = count_trailing_zeros 64 (bit_xor (bit_and word tops) tops) / 8 + 1 in (n ≤ 8) × IsWhole (take n bytes)
counted-to-end word some bytes n h e =
    let found = marks-are word bytes n h e in
    let more : 0 < marks bytes = let s = rw found at some in omega (arith, s) in
    let r = first-end bytes 64 _ h (omega (arith, n)) more refl in
    rw (found, add-one) (omega (arith, r.0, n), r.1)

-- where nothing is marked no byte is below 128
none-marked : (bs : List ℕ) → marks bs ≡ 0 → AreHigh bs
none-marked [] none = tt
none-marked (b ∷ bs) none =
    elim (cases_lt b 128) [
      | inl lt ↦ let s = rw (lt-ltb b 128 lt) at none in absurd (omega (arith, s))
      | inr ge ↦ let s = rw (le-ltb b 128 ge) at none in (ge, none-marked bs (omega (arith, s)))
    ]

pub none-ends : (word : ℕ) → bit_xor (bit_and word tops) tops ≡ 0 → (bytes : List ℕ) → length bytes ≡ 8
    → AreBytes bytes → word ≡ number_l 256 bytes → AreHigh bytes
none-ends word none bytes n h e = none-marked bytes (rw (marks-are word bytes n h e) at none)
