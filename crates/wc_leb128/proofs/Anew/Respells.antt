-- What was read is spelled anew.
use Rattle.std.proofs.Common.{◌≡◌, ℕ, zero, suc, ◌+◌, ◌-◌, ◌*◌, ◌^◌, ◌<◌, ◌≤◌, ℤ, pos, Bool, true, false, List, []}
use Rattle.std.proofs.Common.{◌∷◌, length, take, if◌then◌else◌, inl, inr, refl, sym, ap, ◌∙◌, arith}
use native.Mathlib.Nat.{two-pow-succ}
use Rattle.std.proofs.lemmas.Bool.{cases_lt}
use Rattle.std.proofs.lemmas.Int.{ints}
use Rattle.std.proofs.Math.Pow.{pow_mono}
use Rattle.wc_leb128.specs.Writing.Bytes.{unsigned_bytes, signed_bytes, signed_of}
use Rattle.wc_leb128.specs.Reading.Eight.{IsWhole, EndsAmong, groups, signed_groups}
use Rattle.wc_leb128.specs.Reading.Respelled.{again, turned, HasGroups, HasSignedGroups}
use Rattle.wc_leb128.proofs.Anew.Again.{unsigned-again, signed-again}
use Rattle.wc_leb128.proofs.Words.EightFront.{parts-of}
use Rattle.wc_leb128.proofs.Words.Groups.{groups-below, IsSigned, signed-cases}

whole-some : (a : List ℕ) → IsWhole a → 0 < length a
whole-some [] w = absurd w
whole-some (b ∷ bs) w = omega arith

pub turned-of : (s : Bool) (m : ℕ) → turned (signed_of s m) ≡ m
turned-of false m = refl
turned-of true m = refl

-- a sign, and the bits beside it
signs : (h g : ℕ) (z : ℤ) → g < 2 * h → IsSigned h g z → (s : Bool) × (m : ℕ) × (z ≡ signed_of s m) × (m < h)
signs h g z lt (inl c) = (false, g, c.1, c.0)
signs h g z lt (inr c) =
    let e = c.1 in
    let l = c.0 in
    (true, 2 * h - g - 1, omega (arith, ints, e, lt, l), omega (arith, lt, l))

twice : (n : ℕ) → 0 < n → 2 ^ (7 * n) ≡ 2 * 2 ^ (7 * n - 1)
twice zero some = absurd (omega (arith, some))
twice (suc k) some =
    let e : 7 * suc k ≡ suc (7 * suc k - 1) = omega arith in
    let both : 2 ^ (7 * suc k) ≡ 2 ^ suc (7 * suc k - 1) = ap (λ x. 2 ^ x) e in
    omega (arith, both, two-pow-succ (7 * suc k - 1))

module _ (a : List ℕ) (whole : IsWhole a) where
  unsigned-few : (l : ℕ) → HasGroups (groups a) l → l ≤ length a
  unsigned-few zero h = omega arith
  unsigned-few (suc zero) h = omega (arith, whole-some a whole)
  unsigned-few (suc (suc k)) h =
      elim (cases_lt (length a) (suc (suc k))) [
        | inl lt ↦
            let p : 2 ^ (7 * length a) ≤ 2 ^ (7 * suc k) =
            pow_mono {i = 7 * length a} {j = 7 * suc k} (omega (arith, lt)) in
            let n = h.needed k refl in
            let b = groups-below a in absurd (omega (arith, p, n, b))
        | inr ge ↦ ge
      ]

  pub unsigned-anew : (l : ℕ) → HasGroups (groups a) l → (0 < l) × (l ≤ length a)
      × (again (take l a) ≡ unsigned_bytes (groups a))
  unsigned-anew l h = (h.some, unsigned-few l h, unsigned-again l a (whole-some a whole) h)

  signed-parts : (s : Bool) × (m : ℕ) × (signed_groups a ≡ signed_of s m) × (m < 2 ^ (7 * length a - 1))
  signed-parts =
      let b = groups-below a in
      let t = twice (length a) (whole-some a whole) in
      signs (2 ^ (7 * length a - 1)) (groups a) (signed_groups a) (omega (arith, b, t)) (signed-cases a whole)

  signed-few : (m l : ℕ) → m < 2 ^ (7 * length a - 1) → HasSignedGroups m l → l ≤ length a
  signed-few m zero lt h = omega arith
  signed-few m (suc zero) lt h = omega (arith, whole-some a whole)
  signed-few m (suc (suc k)) below h =
      elim (cases_lt (length a) (suc (suc k))) [
        | inl lt ↦
            let p : 2 ^ (7 * length a - 1) ≤ 2 ^ (7 * suc k - 1) =
            pow_mono {i = 7 * length a - 1} {j = 7 * suc k - 1} (omega (arith, lt)) in
            let n = h.needed k refl in absurd (omega (arith, p, n, below))
        | inr ge ↦ ge
      ]

  pub signed-anew : (l : ℕ) → HasSignedGroups (turned (signed_groups a)) l → (0 < l) × (l ≤ length a)
      × (again (take l a) ≡ signed_bytes (signed_groups a))
  signed-anew l h =
      let p = signed-parts in
      let m : turned (signed_groups a) ≡ p.1 = ap turned p.2 ∙ turned-of p.0 p.1 in
      let g : HasSignedGroups p.1 l = rw m at h in (
        h.some,
        signed-few p.1 l p.3 g,
        signed-again l a p.0 p.1 whole p.2 g ∙ ap signed_bytes (sym p.2),
      )

-- with a sign or without one
pub anew : (signed : Bool) (a : List ℕ) (value : ℤ) (bits l : ℕ) → IsWhole a
    → value ≡ (if signed then signed_groups a else pos (groups a))
    → bits ≡ turned value → (signed ≡ false → HasGroups bits l) → (signed ≡ true → HasSignedGroups bits l)
    → (0 < l) × (l ≤ length a) × (again (take l a) ≡ (if signed then signed_bytes value else unsigned_bytes (groups a)))
anew true a value bits l whole is are low high =
    let b : bits ≡ turned (signed_groups a) = are ∙ ap turned is in
    let g : HasSignedGroups (turned (signed_groups a)) l = rw b at (high refl) in
    let s = signed-anew a whole l g in
    (s.0, s.1, s.2 ∙ ap signed_bytes (sym is))
anew false a value bits l whole is are low high =
    let b : bits ≡ groups a = are ∙ ap turned is in
    let g : HasGroups (groups a) l = rw b at (low refl) in unsigned-anew a whole l g

-- what is known once the integer and the length of its shortest spelling are
pub record Known (signed : Bool) (xs : List ℕ) (value : ℤ) (n l : ℕ) : Type 0 where
  pub few : n ≤ 8
  pub whole : IsWhole (take n xs)
  pub is : value ≡ (if signed then signed_groups (take n xs) else pos (groups (take n xs)))
  pub some : 0 < l
  pub fewer : l ≤ n
  pub spelled : again (take l (take n xs))
      ≡ (if signed then signed_bytes value else unsigned_bytes (groups (take n xs)))

pub known : (signed : Bool) (xs : List ℕ) (all n : ℕ) (value : ℤ) (bits l : ℕ) → EndsAmong xs all n
    → ((a : List ℕ) (q : ℕ) → IsWhole a → length a ≡ n → all ≡ groups a + 2 ^ (7 * n) * q
    → value ≡ (if signed then signed_groups a else pos (groups a)))
    → bits ≡ turned value → (signed ≡ false → HasGroups bits l) → (signed ≡ true → HasSignedGroups bits l)
    → Known signed xs value n l
known signed xs all n value bits l ends read are low high =
    let p = parts-of xs all n ends in
    let is = read (take n xs) _ p.whole p.long p.split in
    let s = anew signed (take n xs) value bits l p.whole is are low high in record {
      few = p.few;
      whole = p.whole;
      is = is;
      some = s.0;
      fewer = omega (arith, s.1, p.long);
      spelled = s.2;
    }
