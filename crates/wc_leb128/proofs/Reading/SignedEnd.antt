-- The number that the last byte of a signed integer ends.
use Rattle.std.proofs.Common.{◌≡◌, ℕ, suc, ◌+◌, ◌-◌, ◌*◌, ◌%◌, ◌^◌, ◌<◌, ◌≤◌, ℤ, pos, negsuc, ◌+ℤ◌, ◌-ℤ◌, ◌*ℤ◌, inl}
use Rattle.std.proofs.Common.{inr, refl, ◌∙◌, arith}
use Rattle.std.proofs.Math.Pow.{pow_mono, pow_pos}
use Rattle.std.proofs.Math.Nat.{mod-eq_of_lt}
use Rattle.std.proofs.Math.IntN.{pos-*ℤ-pos, pos-*ℤ-negsuc}
use Rattle.std.proofs.lemmas.Int.{ints}
use Rattle.wc_leb128.specs.declared.step.Step.TheVariants.{Done}
use Rattle.wc_leb128.specs.Reading.State.{Ends}
use Rattle.wc_leb128.proofs.Reading.Push.{part_fits}

-- what `ended` is called with, and a number of the bits that are left for it but the sign's
pub record HasRoom (low shift room d : ℕ) : Type 0 where
  pub low_bits : low < 2 ^ shift
  pub some_room : 0 < room
  pub fits_i64 : shift + room ≤ 64
  pub fits : d < 2 ^ (room - 1)

pub sum_fits : (low shift room d : ℕ) → HasRoom low shift room d → low + d * 2 ^ shift < 2 ^ 63
sum_fits low shift room d h =
    let lt = part_fits shift (room - 1) d low h.fits h.low_bits in
    let bits : shift + (room - 1) ≤ 63 = omega arith in
    let p : 2 ^ (shift + (room - 1)) ≤ 2 ^ 63 = pow_mono bits in
    omega arith

pub raised : (low shift room d : ℕ) → HasRoom low shift room d → d * 2 ^ shift % 2 ^ 64 ≡ d * 2 ^ shift
raised low shift room d h =
    let f = sum_fits low shift room d h in
    let lt : d * 2 ^ shift < 2 ^ 64 = omega arith in mod-eq_of_lt lt

-- one more of these still fits, and is above the low bits
pub next_fits : (low shift room d : ℕ) → HasRoom low shift room d
    → (low < suc d * 2 ^ shift) × (suc d * 2 ^ shift ≤ 2 ^ 63)
next_fits low shift room d h =
    let some = pow_pos shift in
    let k : HasRoom (2 ^ shift - 1) shift room d = record {
      low_bits = omega arith;
      some_room = h.some_room;
      fits_i64 = h.fits_i64;
      fits = h.fits;
    } in
    let f = sum_fits (2 ^ shift - 1) shift room d k in
    let e : suc d * 2 ^ shift ≡ d * 2 ^ shift + 2 ^ shift = omega arith in
    let low_bits = h.low_bits in
    (omega arith, omega arith)

pub next_raised : (low shift room d : ℕ) → HasRoom low shift room d → suc d * 2 ^ shift % 2 ^ 64 ≡ suc d * 2 ^ shift
next_raised low shift room d h =
    let f = next_fits low shift room d h in
    let lt : suc d * 2 ^ shift < 2 ^ 64 = omega arith in mod-eq_of_lt lt

sum-pos : (low p b : ℕ) → pos (low + b * p) ≡ pos low +ℤ (pos p *ℤ pos b)
sum-pos low p b = let e = pos-*ℤ-pos p b in let c : p * b ≡ b * p = omega arith in omega (arith, ints, e, c)

pub ends_positive : (low shift room b : ℕ) (z : ℤ) → HasRoom low shift room b → b < 64
    → z ≡ pos (low + b * 2 ^ shift) → Ends room b low shift (Done z)
ends_positive low shift room b z h lt e = (pos b, inl (lt, h.fits, refl, refl), e ∙ sum-pos low (2 ^ shift) b)

sum-neg : (low p d m : ℕ) → low + suc m ≡ suc d * p → negsuc m ≡ pos low +ℤ (pos p *ℤ negsuc d)
sum-neg low p d m e =
    let f = pos-*ℤ-negsuc p d in
    let c : p * suc d ≡ suc d * p = omega arith in
    omega (arith, ints, e, f, c)

pub ends_negative : (low shift room b m : ℕ) (z : ℤ) → HasRoom low shift room (127 - b) → 64 ≤ b → b < 128
    → low + suc m ≡ suc (127 - b) * 2 ^ shift → z ≡ negsuc m → Ends room b low shift (Done z)
ends_negative low shift room b m z h le lt e is =
    let fits = h.fits in
    let byte : negsuc (127 - b) ≡ pos b -ℤ pos 128 = omega (arith, ints) in
    (negsuc (127 - b), inr (inl (le, lt, omega arith, refl, byte)), is ∙ sum-neg low (2 ^ shift) (127 - b) m e)

-- the same as the code has it
pub distance_is : (low shift room b : ℕ) → b < 128 → HasRoom low shift room (127 - b)
    → (128 - b) * 2 ^ shift % 2 ^ 64 ≡ suc (127 - b) * 2 ^ shift
distance_is low shift room b lt h =
    let e : 128 - b ≡ suc (127 - b) = omega arith in
    rw e (next_raised low shift room (127 - b) h)
