-- How many bytes the shortest spelling of a signed integer has.
use Rattle.std.proofs.Common.{◌≡◌, ℕ, zero, suc, ◌+◌, ◌*◌, ◌/◌, ◌^◌, ◌<◌, ◌≤◌, ℤ, pos, negsuc, Bool, true, false}
use Rattle.std.proofs.Common.{length, inl, inr, ap, ◌∙◌, arith}
use Rattle.std.proofs.lemmas.Bool.{cases_lt}
use Rattle.std.proofs.lemmas.Nat.{pow-add}
use Rattle.wc_leb128.specs.Writing.Bytes.{signed_of, signed_bytes}
use Rattle.wc_leb128.proofs.Writing.SignedShortest.{signed_bytes-low, signed_bytes-high}

some : (s : Bool) (n : ℕ) → 1 ≤ length (signed_bytes (signed_of s n))
some s n =
    elim (cases_lt n 64) [
      | inl lt ↦ rw (signed_bytes-low s n lt) (omega arith)
      | inr le ↦ rw (signed_bytes-high s n le) (omega arith)
    ]

pub length-signed_bytes-some : (z : ℤ) → 1 ≤ length (signed_bytes z)
length-signed_bytes-some (pos n) = some false n
length-signed_bytes-some (negsuc n) = some true n

power_down : (j n : ℕ) → n < 2 ^ (7 * suc j + 6) → n / 128 < 2 ^ (7 * j + 6)
power_down j n h =
    let e : 7 * suc j + 6 ≡ 7 + (7 * j + 6) = omega arith in
    let p : 2 ^ (7 * suc j + 6) ≡ 128 * 2 ^ (7 * j + 6) = ap (λ (x : ℕ). 2 ^ x) e ∙ pow-add 2 7 (7 * j + 6) in
    omega arith

below : (s : Bool) (j n : ℕ) → n < 2 ^ (7 * j + 6) → length (signed_bytes (signed_of s n)) ≤ suc j
below s zero n h = let lt : n < 64 = h in rw (signed_bytes-low s n lt) (omega arith)
below s (suc j) n h =
    elim (cases_lt n 64) [
      | inl lt ↦ rw (signed_bytes-low s n lt) (omega arith)
      | inr le ↦ let r = below s j (n / 128) (power_down j n h) in rw (signed_bytes-high s n le) (omega arith)
    ]

-- a number of 63 bits and a sign takes ten bytes at most
pub length-signed_bytes-ten : (s : Bool) (n : ℕ) → n < 2 ^ 63 → length (signed_bytes (signed_of s n)) ≤ 10
length-signed_bytes-ten s n h = below s 9 n (omega arith)
