-- The shortest spelling of a signed integer.
use Rattle.std.proofs.Common.{◌≡◌, ℕ, zero, suc, ◌+◌, ◌-◌, ◌*◌, ◌/◌, ◌%◌, ◌^◌, ◌<◌, ◌≤◌, ℤ, pos, negsuc, Bool, true}
use Rattle.std.proofs.Common.{false, List, [], ◌∷◌, length, ◌⊎◌, inl, inr, refl, sym, ap, ◌∙◌, arith}
use Rattle.std.proofs.lemmas.Bool.{cases_lt, lt-ltb, le-ltb}
use Rattle.std.proofs.lemmas.Nat.{pow-add}
use Rattle.std.proofs.lemmas.Int.{ints}
use Rattle.std.proofs.Math.Pow.{pow_mono}
use Rattle.wc_leb128.specs.Standard.Integers.{S}
use Rattle.wc_leb128.specs.Standard.Shortest.{HoldsSigned, IsShortestSpelling}
use Rattle.wc_leb128.specs.Writing.Bytes.{group_of, signed_of, signed_within, signed_bytes}
use Rattle.wc_leb128.proofs.Laws.Spellings.{IsOrLonger, behind}
use Rattle.wc_leb128.proofs.Writing.Groups.{by_groups}

within_low : (s : Bool) (k n : ℕ) → n < 64 → signed_within s k n ≡ group_of s n ∷ []
within_low s zero n lt = refl
within_low s (suc k) n lt = rw (lt-ltb n 64 lt) refl

within_high : (s : Bool) (k n : ℕ) → 64 ≤ n
    → signed_within s (suc k) n ≡ (128 + group_of s (n % 128)) ∷ signed_within s k (n / 128)
within_high s k n le = rw (le-ltb n 64 le) refl

any_bound : (s : Bool) (k j n : ℕ) → n ≤ k → n ≤ j → signed_within s k n ≡ signed_within s j n
any_bound s zero j n hk hj = sym (within_low s j n (omega arith))
any_bound s (suc k) zero n hk hj = within_low s (suc k) n (omega arith)
any_bound s (suc k) (suc j) n hk hj =
    elim (cases_lt n 64) [
      | inl lt ↦ within_low s (suc k) n lt ∙ sym (within_low s (suc j) n lt)
      | inr le ↦
          within_high s k n le
          ∙ ap (λ (x : List ℕ). (128 + group_of s (n % 128)) ∷ x)
          (any_bound s k j (n / 128) (omega arith) (omega arith))
          ∙ sym (within_high s j n le)
    ]

bytes_within : (s : Bool) (n : ℕ) → signed_bytes (signed_of s n) ≡ signed_within s n n
unfolding signed_bytes
bytes_within false n = refl
bytes_within true n = refl

-- a number of no more than six bits and a sign takes one byte
pub signed_bytes-low : (s : Bool) (n : ℕ) → n < 64 → signed_bytes (signed_of s n) ≡ group_of s n ∷ []
signed_bytes-low s n lt = bytes_within s n ∙ within_low s n n lt

high : (s : Bool) (n : ℕ) → 64 ≤ n
    → signed_within s n n ≡ (128 + group_of s (n % 128)) ∷ signed_within s (n / 128) (n / 128)
high s zero le = absurd (omega arith)
high s (suc k) le =
    within_high s k (suc k) le
    ∙ ap (λ (x : List ℕ). (128 + group_of s (suc k % 128)) ∷ x)
    (any_bound s k (suc k / 128) (suc k / 128) (omega arith) (omega arith))

-- any other has its seven low bits first
pub signed_bytes-high : (s : Bool) (n : ℕ) → 64 ≤ n
    → signed_bytes (signed_of s n) ≡ (128 + group_of s (n % 128)) ∷ signed_bytes (signed_of s (n / 128))
signed_bytes-high s n le =
    bytes_within s n ∙ high s n le
    ∙ ap (λ (x : List ℕ). (128 + group_of s (n % 128)) ∷ x) (sym (bytes_within s (n / 128)))

-- what a number begins with that isn't negative: no byte from 64 to 127
pub signed_bytes-begin : (n : ℕ) → (b : ℕ) × (rest : List ℕ) × (signed_bytes (pos n) ≡ b ∷ rest)
    × ((b < 64) ⊎ (128 ≤ b))
signed_bytes-begin n =
    elim (cases_lt n 64) [
      | inl lt ↦ (n, [], signed_bytes-low false n lt, inl lt)
      | inr le ↦ (128 + n % 128, signed_bytes (pos (n / 128)), signed_bytes-high false n le, inr (omega arith))
    ]

fits_down : (N n : ℕ) → 7 < N → n < 2 ^ (N - 1) → n / 128 < 2 ^ (N - 7 - 1)
fits_down N n lt h =
    let e : N - 1 ≡ 7 + (N - 7 - 1) = omega arith in
    let p : 2 ^ (N - 1) ≡ 128 * 2 ^ (N - 7 - 1) = ap (λ (x : ℕ). 2 ^ x) e ∙ pow-add 2 7 (N - 7 - 1) in
    omega arith

wide : (N n : ℕ) → 64 ≤ n → n < 2 ^ (N - 1) → 7 < N
wide N n le h =
    elim (cases_lt 7 N) [
      | inl lt ↦ lt
      | inr few ↦ let six : N - 1 ≤ 6 = omega arith in
          let p : 2 ^ (N - 1) ≤ 2 ^ 6 = pow_mono six in absurd (omega arith)
    ]

one_spelled : (s : Bool) (N n : ℕ) → n < 64 → n < 2 ^ (N - 1) → S N (group_of s n ∷ []) (signed_of s n)
one_spelled false N n lt h = inl (lt, h, refl, refl)
one_spelled true N n lt h = inr (inl (omega arith, omega arith, omega arith, refl, omega (arith, ints)))

more_spelled : (s : Bool) (N n : ℕ) (c : List ℕ) → 7 < N → S (N - 7) c (signed_of s (n / 128))
    → S N ((128 + group_of s (n % 128)) ∷ c) (signed_of s n)
more_spelled false N n c w h = inr (inr (omega arith, omega arith, w, pos (n / 128), h, omega (arith, ints)))
more_spelled true N n c w h = inr (inr (omega arith, omega arith, w, negsuc (n / 128), h, omega (arith, ints)))

-- it is a spelling at every width that holds the number
spelled : (s : Bool) (N n : ℕ) → n < 2 ^ (N - 1) → S N (signed_bytes (signed_of s n)) (signed_of s n)
spelled s N n h =
    by_groups 64 (omega arith)
    (λ (i : ℕ). (M : ℕ) → i < 2 ^ (M - 1) → S M (signed_bytes (signed_of s i)) (signed_of s i))
    (λ i lt M g. rw (signed_bytes-low s i lt) (one_spelled s M i lt g))
    (λ i le ih M g. let w = wide M i le g in rw (signed_bytes-high s i le)
    (more_spelled s M i (signed_bytes (signed_of s (i / 128))) w (ih (M - 7) (fits_down M i w g))))
    n N h

some-byte : (N : ℕ) (c : List ℕ) (z : ℤ) → S N c z → 1 ≤ length c
some-byte N [] z h = absurd h
some-byte N (b ∷ c) z h = omega arith

one_group : (s : Bool) (N n b : ℕ) (c : List ℕ) → n < 64 → S N (b ∷ c) (signed_of s n)
    → IsOrLonger (b ∷ c) (group_of s n ∷ [])
one_group false N n b c lt (inl h) = let e : n ≡ b = omega (arith, ints, h.3) in let f = h.2 in inl cc
one_group false N n b c lt (inr (inl h)) = let e = h.4 in let l = h.1 in absurd (omega (arith, ints))
one_group false N n b c lt (inr (inr h)) = let one = some-byte (N - 7) c h.3 h.4 in inr (omega arith)
one_group true N n b c lt (inl h) = let e = h.3 in absurd (omega (arith, ints))
one_group true N n b c lt (inr (inl h)) =
    let w = h.4 in
    let l = h.1 in
    let e : b ≡ 127 - n = omega (arith, ints) in
    let f = h.3 in inl cc
one_group true N n b c lt (inr (inr h)) = let one = some-byte (N - 7) c h.3 h.4 in inr (omega arith)

more_groups : (s : Bool) (N n b : ℕ) (c : List ℕ) → 64 ≤ n → S N (b ∷ c) (signed_of s n)
    → (S (N - 7) c (signed_of s (n / 128)) → IsOrLonger c (signed_bytes (signed_of s (n / 128))))
    → IsOrLonger (b ∷ c) ((128 + group_of s (n % 128)) ∷ signed_bytes (signed_of s (n / 128)))
more_groups false N n b c le (inl h) ih = let w = h.3 in absurd (omega (arith, ints))
more_groups false N n b c le (inr (inl h)) ih = let w = h.4 in let l = h.1 in absurd (omega (arith, ints))
more_groups false N n b c le (inr (inr h)) ih =
    let w = h.5 in
    let m : h.3 ≡ pos (n / 128) = omega (arith, ints, w, h.0, h.1) in
    let d : b ≡ 128 + n % 128 = omega (arith, ints, w, h.0, h.1) in
    behind b (128 + n % 128) c (signed_bytes (pos (n / 128))) d (ih (rw m at h.4))
more_groups true N n b c le (inl h) ih = let w = h.3 in absurd (omega (arith, ints))
more_groups true N n b c le (inr (inl h)) ih = let w = h.4 in let l = h.1 in absurd (omega (arith, ints))
more_groups true N n b c le (inr (inr h)) ih =
    let w = h.5 in
    let m : h.3 ≡ negsuc (n / 128) = omega (arith, ints, w, h.0, h.1) in
    let d : b ≡ 128 + (127 - n % 128) = omega (arith, ints, w, h.0, h.1) in
    behind b (128 + (127 - n % 128)) c (signed_bytes (negsuc (n / 128))) d (ih (rw m at h.4))

or_longer : (s : Bool) (N n : ℕ) (c : List ℕ) → S N c (signed_of s n) → IsOrLonger c (signed_bytes (signed_of s n))
or_longer s N n [] h = absurd h
or_longer s N n (b ∷ c) h =
    elim (cases_lt n 64) [
      | inl lt ↦ rw (signed_bytes-low s n lt) (one_group s N n b c lt h)
      | inr le ↦ rw (signed_bytes-high s n le) (more_groups s N n b c le h (or_longer s (N - 7) (n / 128) c))
    ]

-- any other spelling is longer
pub signed_bytes-or_longer : (N : ℕ) (z : ℤ) (c : List ℕ) → S N c z → IsOrLonger c (signed_bytes z)
signed_bytes-or_longer N (pos n) c h = or_longer false N n c h
signed_bytes-or_longer N (negsuc n) c h = or_longer true N n c h

-- it is a spelling at every width that holds the number
pub signed_bytes-spelled : (N : ℕ) (z : ℤ) → HoldsSigned N z → S N (signed_bytes z) z
signed_bytes-spelled N (pos n) h = let a = h.1 in spelled false N n (omega (arith, ints))
signed_bytes-spelled N (negsuc n) h = let a = h.0 in spelled true N n (omega (arith, ints))

-- no spelling of the number is shorter
pub signed_bytes-least : (N : ℕ) (z : ℤ) (c : List ℕ) → S N c z → length (signed_bytes z) ≤ length c
signed_bytes-least N z c h =
    elim (signed_bytes-or_longer N z c h) [
      | inl e ↦ rw e (omega arith)
      | inr lt ↦ omega arith
    ]

-- one that is as short is the same
pub signed_bytes-only : (N : ℕ) (z : ℤ) (c : List ℕ) → S N c z → length c ≤ length (signed_bytes z) → c ≡ signed_bytes z
signed_bytes-only N z c h le =
    elim (signed_bytes-or_longer N z c h) [
      | inl e ↦ e
      | inr lt ↦ absurd (omega arith)
    ]

pub signed_bytes-shortest : (z : ℤ) → IsShortestSpelling S HoldsSigned (signed_bytes z) z
signed_bytes-shortest z = record {
  spelled = λ N some h. signed_bytes-spelled N z h;
  least = λ N c h. signed_bytes-least N z c h;
  only = λ N c h le. signed_bytes-only N z c h le;
}
