-- How many bytes the shortest spelling of an unsigned integer has.
use Rattle.std.proofs.Common.{◌≡◌, ℕ, zero, suc, ◌+◌, ◌*◌, ◌/◌, ◌^◌, ◌<◌, ◌≤◌, length, inl, inr, ap, ◌∙◌, arith}
use Rattle.std.proofs.lemmas.Bool.{cases_lt}
use Rattle.std.proofs.lemmas.Nat.{pow-add, mul-le}
use Rattle.std.proofs.Math.Pow.{pow_mono}
use Rattle.wc_leb128.specs.Writing.Bytes.{unsigned_bytes}
use Rattle.wc_leb128.proofs.Writing.UnsignedShortest.{unsigned_bytes-low, unsigned_bytes-high}
use Rattle.wc_leb128.proofs.Writing.Groups.{by_groups}

pub length-unsigned_bytes-some : (n : ℕ) → 1 ≤ length (unsigned_bytes n)
length-unsigned_bytes-some n =
    elim (cases_lt n 128) [
      | inl lt ↦ rw (unsigned_bytes-low n lt) (omega arith)
      | inr le ↦ rw (unsigned_bytes-high n le) (omega arith)
    ]

power_down : (k n : ℕ) → n < 2 ^ (7 * suc (suc k)) → n / 128 < 2 ^ (7 * suc k)
power_down k n h =
    let e : 7 * suc (suc k) ≡ 7 + 7 * suc k = omega arith in
    let p : 2 ^ (7 * suc (suc k)) ≡ 128 * 2 ^ (7 * suc k) = ap (λ (x : ℕ). 2 ^ x) e ∙ pow-add 2 7 (7 * suc k) in
    omega arith

below : (j n : ℕ) → n < 2 ^ (7 * suc j) → length (unsigned_bytes n) ≤ suc j
below zero n h = let lt : n < 128 = h in rw (unsigned_bytes-low n lt) (omega arith)
below (suc j) n h =
    elim (cases_lt n 128) [
      | inl lt ↦ rw (unsigned_bytes-low n lt) (omega arith)
      | inr le ↦ let r = below j (n / 128) (power_down j n h) in rw (unsigned_bytes-high n le) (omega arith)
    ]

-- a number of seven bits for each byte takes no more bytes
pub length-unsigned_bytes-below : (j n : ℕ) → 1 ≤ j → n < 2 ^ (7 * j) → length (unsigned_bytes n) ≤ j
length-unsigned_bytes-below zero n one h = absurd (omega arith)
length-unsigned_bytes-below (suc j) n one h = below j n h

above_low : (n : ℕ) → n < 128 → n < 2 ^ (7 * length (unsigned_bytes n))
above_low n lt = rw (unsigned_bytes-low n lt) lt

above_high : (n : ℕ) → 128 ≤ n → n / 128 < 2 ^ (7 * length (unsigned_bytes (n / 128)))
    → n < 2 ^ (7 * length (unsigned_bytes n))
above_high n le h =
    let l = length (unsigned_bytes (n / 128)) in
    let e : 7 * suc l ≡ 7 + 7 * l = omega arith in
    let p : 2 ^ (7 * suc l) ≡ 128 * 2 ^ (7 * l) = ap (λ (x : ℕ). 2 ^ x) e ∙ pow-add 2 7 (7 * l) in
    rw (unsigned_bytes-high n le) (omega arith)

-- each byte holds no more than seven bits
pub length-unsigned_bytes-above : (n : ℕ) → n < 2 ^ (7 * length (unsigned_bytes n))
length-unsigned_bytes-above n = by_groups 128 (omega arith)
    (λ (i : ℕ). i < 2 ^ (7 * length (unsigned_bytes i))) above_low above_high n

-- ten bytes for 64 bits
pub length-unsigned_bytes-u64 : (n : ℕ) → n < 2 ^ 64 → length (unsigned_bytes n) ≤ 10
length-unsigned_bytes-u64 n h = length-unsigned_bytes-below 10 n (omega arith) (omega arith)

-- a larger number takes no fewer bytes
pub length-unsigned_bytes-mono : (m n : ℕ) → m ≤ n → length (unsigned_bytes m) ≤ length (unsigned_bytes n)
length-unsigned_bytes-mono m n le =
    let h = length-unsigned_bytes-above n in
    length-unsigned_bytes-below (length (unsigned_bytes n)) m (length-unsigned_bytes-some n) (omega arith)

sum_product : (x y : ℕ) → 128 ≤ x → 128 ≤ y → x + y ≤ x * y
sum_product x y hx hy =
    let p = mul-le 128 y x y hx (omega arith) in
    let q = mul-le x 128 x y (omega arith) hy in
    omega arith

sum_below : (i j m n : ℕ) → 1 ≤ i → 1 ≤ j → m < 2 ^ (7 * i) → n < 2 ^ (7 * j) → m + n < 2 ^ (7 * (i + j))
sum_below i j m n hi hj a b =
    let p : 2 ^ 7 ≤ 2 ^ (7 * i) = pow_mono {i = 7} {j = 7 * i} (omega arith) in
    let q : 2 ^ 7 ≤ 2 ^ (7 * j) = pow_mono {i = 7} {j = 7 * j} (omega arith) in
    let e : 7 * (i + j) ≡ 7 * i + 7 * j = omega arith in
    let s : 2 ^ (7 * (i + j)) ≡ 2 ^ (7 * i) * 2 ^ (7 * j) = ap (λ (x : ℕ). 2 ^ x) e ∙ pow-add 2 (7 * i) (7 * j) in
    let t = sum_product (2 ^ (7 * i)) (2 ^ (7 * j)) p q in
    omega (arith, s, t)

-- a sum takes no more bytes than its two parts
pub length-unsigned_bytes-sum : (m n : ℕ)
    → length (unsigned_bytes (m + n)) ≤ length (unsigned_bytes m) + length (unsigned_bytes n)
length-unsigned_bytes-sum m n =
    let i = length-unsigned_bytes-some m in
    let j = length-unsigned_bytes-some n in
    length-unsigned_bytes-below (length (unsigned_bytes m) + length (unsigned_bytes n)) (m + n) (omega arith)
    (sum_below (length (unsigned_bytes m)) (length (unsigned_bytes n)) m n i j (length-unsigned_bytes-above m)
    (length-unsigned_bytes-above n))
