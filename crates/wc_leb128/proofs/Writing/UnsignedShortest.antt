-- The shortest spelling of an unsigned integer.
use Rattle.std.proofs.Common.{◌≡◌, ℕ, zero, suc, ◌+◌, ◌-◌, ◌*◌, ◌/◌, ◌%◌, ◌^◌, ◌<◌, ◌≤◌, List, [], ◌∷◌, length, inl}
use Rattle.std.proofs.Common.{inr, refl, sym, ap, ◌∙◌, arith}
use Rattle.std.proofs.lemmas.Bool.{cases_lt, lt-ltb, le-ltb}
use Rattle.std.proofs.lemmas.Nat.{pow-add}
use Rattle.std.proofs.Math.Pow.{pow_mono}
use Rattle.wc_leb128.specs.Standard.Integers.{U}
use Rattle.wc_leb128.specs.Standard.Shortest.{HoldsUnsigned, IsShortestSpelling}
use Rattle.wc_leb128.specs.Writing.Bytes.{unsigned_within, unsigned_bytes}
use Rattle.wc_leb128.proofs.Laws.Spellings.{IsOrLonger, behind}
use Rattle.wc_leb128.proofs.Writing.Groups.{by_groups}

within_low : (k n : ℕ) → n < 128 → unsigned_within k n ≡ n ∷ []
within_low zero n lt = refl
within_low (suc k) n lt = rw (lt-ltb n 128 lt) refl

within_high : (k n : ℕ) → 128 ≤ n → unsigned_within (suc k) n ≡ (128 + n % 128) ∷ unsigned_within k (n / 128)
within_high k n le = rw (le-ltb n 128 le) refl

any_bound : (k j n : ℕ) → n ≤ k → n ≤ j → unsigned_within k n ≡ unsigned_within j n
any_bound zero j n hk hj = sym (within_low j n (omega arith))
any_bound (suc k) zero n hk hj = within_low (suc k) n (omega arith)
any_bound (suc k) (suc j) n hk hj =
    elim (cases_lt n 128) [
      | inl lt ↦ within_low (suc k) n lt ∙ sym (within_low (suc j) n lt)
      | inr le ↦
          within_high k n le ∙ ap (λ (x : List ℕ). (128 + n % 128) ∷ x)
          (any_bound k j (n / 128) (omega arith) (omega arith))
          ∙ sym (within_high j n le)
    ]

-- a number of no more than seven bits is its own spelling
pub unsigned_bytes-low : (n : ℕ) → n < 128 → unsigned_bytes n ≡ n ∷ []
unfolding unsigned_bytes
unsigned_bytes-low n lt = within_low n n lt

-- any other has its seven low bits first
pub unsigned_bytes-high : (n : ℕ) → 128 ≤ n → unsigned_bytes n ≡ (128 + n % 128) ∷ unsigned_bytes (n / 128)
unfolding unsigned_bytes
unsigned_bytes-high zero le = absurd (omega arith)
unsigned_bytes-high (suc k) le =
    within_high k (suc k) le
    ∙ ap (λ (x : List ℕ). (128 + suc k % 128) ∷ x)
    (any_bound k (suc k / 128) (suc k / 128) (omega arith) (omega arith))

fits_down : (N n : ℕ) → 7 < N → n < 2 ^ N → n / 128 < 2 ^ (N - 7)
fits_down N n lt h =
    let e : N ≡ 7 + (N - 7) = omega arith in
    let p : 2 ^ N ≡ 128 * 2 ^ (N - 7) = ap (λ (x : ℕ). 2 ^ x) e ∙ pow-add 2 7 (N - 7) in
    omega arith

wide : (N n : ℕ) → 128 ≤ n → n < 2 ^ N → 7 < N
wide N n le h =
    elim (cases_lt 7 N) [
      | inl lt ↦ lt
      | inr few ↦ let p : 2 ^ N ≤ 2 ^ 7 = pow_mono few in absurd (omega arith)
    ]

spelled_low : (n : ℕ) → n < 128 → (N : ℕ) → n < 2 ^ N → U N (unsigned_bytes n) n
spelled_low n lt N h = rw (unsigned_bytes-low n lt) (inl (lt, h, refl, refl))

spelled_high : (n : ℕ) → 128 ≤ n → ((N : ℕ) → n / 128 < 2 ^ N → U N (unsigned_bytes (n / 128)) (n / 128)) → (N : ℕ)
    → n < 2 ^ N
    → U N (unsigned_bytes n) n
spelled_high n le ih N h =
    let w = wide N n le h in
    rw (unsigned_bytes-high n le)
    (inr (omega arith, omega arith, w, n / 128, ih (N - 7) (fits_down N n w h), omega arith))

-- it is a spelling at every width that holds the number
pub unsigned_bytes-spelled : (N n : ℕ) → n < 2 ^ N → U N (unsigned_bytes n) n
unsigned_bytes-spelled N n h =
    by_groups 128 (omega arith)
    (λ (i : ℕ). (M : ℕ) → i < 2 ^ M → U M (unsigned_bytes i) i) spelled_low spelled_high n N h

some-byte : (N : ℕ) (c : List ℕ) (n : ℕ) → U N c n → 1 ≤ length c
some-byte N [] n h = absurd h
some-byte N (b ∷ c) n h = omega arith

one_group : (N n b : ℕ) (c : List ℕ) → n < 128 → U N (b ∷ c) n → IsOrLonger (b ∷ c) (n ∷ [])
one_group N n b c lt (inl s) = let e : n ≡ b = s.3 in let f = s.2 in inl cc
one_group N n b c lt (inr s) = let one = some-byte (N - 7) c s.3 s.4 in inr (omega arith)

more_groups : (N n b : ℕ) (c : List ℕ) → 128 ≤ n → U N (b ∷ c) n
    → (U (N - 7) c (n / 128) → IsOrLonger c (unsigned_bytes (n / 128)))
    → IsOrLonger (b ∷ c) ((128 + n % 128) ∷ unsigned_bytes (n / 128))
more_groups N n b c le (inl s) ih = absurd (omega arith)
more_groups N n b c le (inr s) ih =
    let m : s.3 ≡ n / 128 = omega arith in
    let d : b ≡ 128 + n % 128 = omega arith in
    behind b (128 + n % 128) c (unsigned_bytes (n / 128)) d (ih (rw m at s.4))

-- any other spelling is longer
pub unsigned_bytes-or_longer : (N n : ℕ) (c : List ℕ) → U N c n → IsOrLonger c (unsigned_bytes n)
unsigned_bytes-or_longer N n [] h = absurd h
unsigned_bytes-or_longer N n (b ∷ c) h =
    elim (cases_lt n 128) [
      | inl lt ↦ rw (unsigned_bytes-low n lt) (one_group N n b c lt h)
      | inr le ↦ rw (unsigned_bytes-high n le) (more_groups N n b c le h (unsigned_bytes-or_longer (N - 7) (n / 128) c))
    ]

-- no spelling of the number is shorter
pub unsigned_bytes-least : (N n : ℕ) (c : List ℕ) → U N c n → length (unsigned_bytes n) ≤ length c
unsigned_bytes-least N n c h =
    elim (unsigned_bytes-or_longer N n c h) [
      | inl e ↦ rw e (omega arith)
      | inr lt ↦ omega arith
    ]

-- one that is as short is the same
pub unsigned_bytes-only : (N n : ℕ) (c : List ℕ) → U N c n → length c ≤ length (unsigned_bytes n) → c ≡ unsigned_bytes n
unsigned_bytes-only N n c h le =
    elim (unsigned_bytes-or_longer N n c h) [
      | inl e ↦ e
      | inr lt ↦ absurd (omega arith)
    ]

pub unsigned_bytes-shortest : (n : ℕ) → IsShortestSpelling U HoldsUnsigned (unsigned_bytes n) n
unsigned_bytes-shortest n = record {
  spelled = λ N some h. unsigned_bytes-spelled N n h;
  least = λ N c h. unsigned_bytes-least N n c h;
  only = λ N c h le. unsigned_bytes-only N n c h le;
}
