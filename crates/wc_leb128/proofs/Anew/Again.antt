-- The shortest spelling has the first groups of any other.
use Rattle.std.proofs.Common.{◌≡◌, ℕ, zero, suc, ◌+◌, ◌-◌, ◌*◌, ◌/◌, ◌%◌, ◌^◌, ◌<◌, ◌≤◌, List, [], ◌∷◌, length, take}
use Rattle.std.proofs.Common.{ℤ, pos, ◌+ℤ◌, ◌-ℤ◌, ◌*ℤ◌, Bool, true, false, inl, inr, refl, ap, ◌∙◌, arith}
use Rattle.std.proofs.lemmas.Bool.{cases_lt, lt-ltb, le-ltb}
use Rattle.std.proofs.lemmas.Int.{ints}
use Rattle.std.proofs.lemmas.Nat.{pow-add}
use Rattle.std.proofs.Math.Pow.{pow_mono}
use Rattle.wc_leb128.specs.Writing.Bytes.{unsigned_bytes, signed_bytes, signed_of, group_of}
use Rattle.wc_leb128.specs.Reading.Eight.{IsWhole, groups, signed_groups}
use Rattle.wc_leb128.specs.Reading.Respelled.{again, HasGroups, HasSignedGroups}
use Rattle.wc_leb128.proofs.Reading.Digits.{power_up}
use Rattle.wc_leb128.proofs.Writing.SignedShortest.{signed_bytes-low, signed_bytes-high}
use Rattle.wc_leb128.proofs.Writing.UnsignedShortest.{unsigned_bytes-low, unsigned_bytes-high}

-- without the first group one fewer holds what is left
fewer : (r g k : ℕ) → r < 128 → HasGroups (r + 128 * g) (suc (suc k)) → HasGroups g (suc k)
fewer r g k lt h =
    let s = power_up (suc k) in
    let a = h.enough in
    let b = h.needed k refl in record {
      some = omega arith;
      enough = omega (arith, s, a, lt);
      needed = λ j e.
          let is : k ≡ suc j = omega (arith, e) in
          let t = power_up (suc j) in
          let low : 2 ^ (7 * suc (suc j)) ≤ r + 128 * g = rw is at b in
          omega (arith, t, low, lt);
    }

pub unsigned-again : (l : ℕ) (a : List ℕ) → 0 < length a → HasGroups (groups a) l
    → again (take l a) ≡ unsigned_bytes (groups a)
unsigned-again zero a some h = let s = h.some in absurd (omega (arith, s))
unsigned-again (suc l) [] some h = absurd (omega (arith, some))
unsigned-again (suc zero) (b ∷ bs) some h =
    let a = h.enough in
    let lt : b % 128 + 128 * groups bs < 128 = a in
    let e : b % 128 ≡ b % 128 + 128 * groups bs = omega (arith, lt) in
    rw (unsigned_bytes-low (b % 128 + 128 * groups bs) lt) (ap (λ x. x ∷ []) e)
unsigned-again (suc (suc l)) (b ∷ []) some h =
    let n = h.needed l refl in
    let p : 2 ^ 7 ≤ 2 ^ (7 * suc l) = pow_mono {i = 7} {j = 7 * suc l} (omega arith) in
    absurd (omega (arith, n, p))
unsigned-again (suc (suc l)) (b ∷ (d ∷ bs)) some h =
    let g = groups (d ∷ bs) in
    let n = h.needed l refl in
    let p : 2 ^ 7 ≤ 2 ^ (7 * suc l) = pow_mono {i = 7} {j = 7 * suc l} (omega arith) in
    let le : 128 ≤ b % 128 + 128 * g = omega (arith, n, p) in
    let rest : (b % 128 + 128 * g) / 128 ≡ g = omega arith in
    let first : (b % 128 + 128 * g) % 128 ≡ b % 128 = omega arith in
    let ih = unsigned-again (suc l) (d ∷ bs) (omega arith) (fewer (b % 128) g l (omega arith) h) in
    rw (unsigned_bytes-high (b % 128 + 128 * g) le, rest, first, ih) refl

-- ---- with a sign

half_step : (k : ℕ) → 2 ^ (7 * suc (suc k) - 1) ≡ 128 * 2 ^ (7 * suc k - 1)
half_step k =
    let e : 7 * suc (suc k) - 1 ≡ 7 + (7 * suc k - 1) = omega arith in ap (λ x. 2 ^ x) e ∙ pow-add 2 7 (7 * suc k - 1)

some-high : (k n : ℕ) → 2 ^ (7 * suc k - 1) ≤ n → 64 ≤ n
some-high k n le =
    let p : 2 ^ 6 ≤ 2 ^ (7 * suc k - 1) = pow_mono {i = 6} {j = 7 * suc k - 1} (omega arith) in omega (arith, p, le)

fewer-signed : (n k : ℕ) → HasSignedGroups n (suc (suc k)) → HasSignedGroups (n / 128) (suc k)
fewer-signed n k h =
    let s = half_step k in
    let a = h.enough in
    let b = h.needed k refl in record {
      some = omega arith;
      enough = omega (arith, s, a);
      needed = λ j e.
          let is : k ≡ suc j = omega (arith, e) in
          let t = half_step j in
          let low : 2 ^ (7 * suc (suc j) - 1) ≤ n = rw is at b in
          omega (arith, t, low);
    }

-- one byte
last-low : (s : Bool) (b n : ℕ) → b < 64 → pos b ≡ signed_of s n → b % 128 ≡ group_of s n
last-low false b n lt e = omega (arith, ints, e, lt)
last-low true b n lt e = absurd (omega (arith, ints, e))

last-high : (s : Bool) (b n : ℕ) → 64 ≤ b → b < 128 → pos b -ℤ pos 128 ≡ signed_of s n → b % 128 ≡ group_of s n
last-high false b n le lt e = absurd (omega (arith, ints, e, lt))
last-high true b n le lt e = omega (arith, ints, e, le, lt)

last-few : (s : Bool) (b n : ℕ) → b < 128 → signed_groups (b ∷ []) ≡ signed_of s n
    → (b % 128 ≡ group_of s n) × (n < 64)
last-few s b n lt e =
    elim (cases_lt b 64) [
      | inl low ↦ let f = rw (lt-ltb b 64 low) at e in (last-low s b n low f, few-low s b n low f)
      | inr ge ↦ let f = rw (le-ltb b 64 ge) at e in (last-high s b n ge lt f, few-high s b n ge lt f)
    ]
  where
    few-low : (s : Bool) (b n : ℕ) → b < 64 → pos b ≡ signed_of s n → n < 64
    few-low false b n lt e = omega (arith, ints, e, lt)
    few-low true b n lt e = absurd (omega (arith, ints, e))

    few-high : (s : Bool) (b n : ℕ) → 64 ≤ b → b < 128 → pos b -ℤ pos 128 ≡ signed_of s n → n < 64
    few-high false b n le lt e = absurd (omega (arith, ints, e, lt))
    few-high true b n le lt e = omega (arith, ints, e, le, lt)

-- the first of more
first-few : (s : Bool) (r n : ℕ) (z : ℤ) → r < 128 → n < 64 → (pos 128 *ℤ z) +ℤ pos r ≡ signed_of s n
    → r ≡ group_of s n
first-few false r n z lt few e = omega (arith, ints, e, lt, few)
first-few true r n z lt few e = omega (arith, ints, e, lt, few)

first-more : (s : Bool) (r n : ℕ) (z : ℤ) → r < 128 → (pos 128 *ℤ z) +ℤ pos r ≡ signed_of s n
    → (r ≡ group_of s (n % 128)) × (z ≡ signed_of s (n / 128))
first-more false r n z lt e = (omega (arith, ints, e, lt), omega (arith, ints, e, lt))
first-more true r n z lt e = (omega (arith, ints, e, lt), omega (arith, ints, e, lt))

pub signed-again : (l : ℕ) (a : List ℕ) (s : Bool) (n : ℕ) → IsWhole a → signed_groups a ≡ signed_of s n
    → HasSignedGroups n l
    → again (take l a) ≡ signed_bytes (signed_of s n)
signed-again zero a s n w e h = let o = h.some in absurd (omega (arith, o))
signed-again (suc l) [] s n w e h = absurd w
signed-again (suc zero) (b ∷ []) s n (inl w) e h =
    let f = last-few s b n w.0 e in rw (signed_bytes-low s n f.1) (ap (λ x. x ∷ []) f.0)
signed-again (suc (suc l)) (b ∷ []) s n (inl w) e h =
    let f = last-few s b n w.0 e in
    let o = some-high l n (h.needed l refl) in absurd (omega (arith, o, f.1))
signed-again (suc l) (b ∷ []) s n (inr w) e h = absurd w.2
signed-again (suc l) (b ∷ (d ∷ bs)) s n (inl w) e h = let f = w.1 in absurd cc
signed-again (suc zero) (b ∷ (d ∷ bs)) s n (inr w) e h =
    let few : n < 64 = h.enough in
    let f = first-few s (b % 128) n (signed_groups (d ∷ bs)) (omega arith) few e in
    rw (signed_bytes-low s n few) (ap (λ x. x ∷ []) f)
signed-again (suc (suc l)) (b ∷ (d ∷ bs)) s n (inr w) e h =
    let le = some-high l n (h.needed l refl) in
    let f = first-more s (b % 128) n (signed_groups (d ∷ bs)) (omega arith) e in
    let ih = signed-again (suc l) (d ∷ bs) s (n / 128) w.2 f.1 (fewer-signed n l h) in
    rw (signed_bytes-high s n le, f.0, ih) refl
