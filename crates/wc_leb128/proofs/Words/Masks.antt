-- Digits of a word under a mask that is alike for each of them.
use Rattle.std.proofs.Common.{◌≡◌, ℕ, ◌+◌, ◌-◌, ◌*◌, ◌%◌, ◌^◌, ◌<◌, ◌≤◌, List, [], ◌∷◌, map, bit_and, refl}
use Rattle.std.proofs.Common.{arith}
use Rattle.std.specs.Int.Bits.{bit_xor}
use Rattle.std.specs.Simd.Lanes.{number_l}
use Rattle.std.proofs.Math.Pow.{pow_mono, pow_pos}
use Rattle.std.proofs.lemmas.Nat.{and_block, and_mask, xor_block}

-- each is below
abbrev pub AreBelow : ℕ → List ℕ → Type 0
AreBelow p [] = Unit {0}
AreBelow p (x ∷ xs) = (x < p) × AreBelow p xs

pair-masked : (k x r m s : ℕ) → x < 2 ^ k → m < 2 ^ k
    → bit_and (x + 2 ^ k * r) (m + 2 ^ k * s) ≡ bit_and x m + 2 ^ k * bit_and r s
pair-masked k x r m s a b =
    let e : x + 2 ^ k * r ≡ r * 2 ^ k + x = omega arith in
    let f : m + 2 ^ k * s ≡ s * 2 ^ k + m = omega arith in
    let g : bit_and r s * 2 ^ k + bit_and x m ≡ bit_and x m + 2 ^ k * bit_and r s = omega arith in
    rw (e, f, and_block k r s x m a b) g

pair-turned : (k x r m s : ℕ) → x < 2 ^ k → m < 2 ^ k
    → bit_xor (x + 2 ^ k * r) (m + 2 ^ k * s) ≡ bit_xor x m + 2 ^ k * bit_xor r s
pair-turned k x r m s a b =
    let e : x + 2 ^ k * r ≡ r * 2 ^ k + x = omega arith in
    let f : m + 2 ^ k * s ≡ s * 2 ^ k + m = omega arith in
    let g : bit_xor r s * 2 ^ k + bit_xor x m ≡ bit_xor x m + 2 ^ k * bit_xor r s = omega arith in
    rw (e, f, xor_block k r s x m a b) g

-- each digit under the mask
pub digits-under : (k m : ℕ) (xs : List ℕ) → m < 2 ^ k → AreBelow (2 ^ k) xs
    → bit_and (number_l (2 ^ k) xs) (number_l (2 ^ k) (map (λ _. m) xs)) ≡ number_l (2 ^ k) (map (λ x. bit_and x m) xs)
digits-under k m [] lt h = refl
digits-under k m (x ∷ xs) lt h =
    rw (pair-masked k x (number_l (2 ^ k) xs) m (number_l (2 ^ k) (map (λ _. m) xs)) h.0 lt)
    rw (digits-under k m xs lt h.1) refl

-- and with the bits of the mask turned
pub digits-turned : (k m : ℕ) (xs : List ℕ) → m < 2 ^ k → AreBelow (2 ^ k) xs
    → bit_xor (number_l (2 ^ k) xs) (number_l (2 ^ k) (map (λ _. m) xs)) ≡ number_l (2 ^ k) (map (λ x. bit_xor x m) xs)
digits-turned k m [] lt h = refl
digits-turned k m (x ∷ xs) lt h =
    rw (pair-turned k x (number_l (2 ^ k) xs) m (number_l (2 ^ k) (map (λ _. m) xs)) h.0 lt)
    rw (digits-turned k m xs lt h.1) refl

-- the low bits of each digit
pub digits-masked : (k j : ℕ) (xs : List ℕ) → j ≤ k → AreBelow (2 ^ k) xs
    → bit_and (number_l (2 ^ k) xs) (number_l (2 ^ k) (map (λ _. 2 ^ j - 1) xs))
    ≡ number_l (2 ^ k) (map (λ x. x % 2 ^ j) xs)
digits-masked k j [] le h = refl
digits-masked k j (x ∷ xs) le h =
    let some = pow_pos j in
    let up : 2 ^ j ≤ 2 ^ k = pow_mono le in
    let all = number_l (2 ^ k) (map (λ _. 2 ^ j - 1) xs) in
    let one = pair-masked k x (number_l (2 ^ k) xs) (2 ^ j - 1) all h.0 (omega arith) in
    rw (one, and_mask x j, digits-masked k j xs le h.1) refl
