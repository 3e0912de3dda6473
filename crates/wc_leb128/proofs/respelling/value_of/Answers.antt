use Rattle.std.proofs.Common.{◌≡◌, ◌<◌, ◌-◌, ◌*◌, ◌+◌, ◌%◌, ◌^◌, ap, ◌∙◌, arith, w64, pos, ℕ, bit_and}
use Rattle.std.proofs.Common.{FitsSigned, ◌-ℤ◌, if◌then◌else◌, length, refl}
use Rattle.std.proofs.lemmas.Int.{ints, to_z_pos, to_z-of_z}
use Rattle.std.proofs.lemmas.Nat.{mod_below}
use Rattle.std.proofs.Math.Pow.{pow_pos}
use Rattle.wc_leb128.specs.Reading.Eight.{groups, signed_groups}
use Rattle.wc_leb128.proofs.Words.Groups.{Halves, halves, under-halves}
use Rattle.wc_leb128.proofs.Anew.Values.{half-within, value-is}
use Rattle.wc_leb128.proofs.respelling.value_of.Goals as goal

known : (c : goal.After-half_of-half) → Halves c.args.count
known c = halves c.args.count c.requires.some.0 c.requires.some.1

half-low : (c : goal.After-half_of-half) → 1 * 2 ^ (7 * c.args.count - 1) % 18446744073709551616 < 72057594037927936
half-low c =
    let h = known c in
    let some = pow_pos (7 * c.args.count - 1) in
    omega (arith, h.half, h.whole, h.below, some)

-- the masked number
abbrev masked : goal.After-half_of-half → ℕ
masked c =
    bit_and (c.args.all + c.half_of-half.result)
    (2 * (1 * 2 ^ (7 * c.args.count - 1) % 18446744073709551616) - 1)

masked-is : (c : goal.After-half_of-half)
    → masked c ≡ (c.args.all + c.half_of-half.result) % 2 ^ (7 * c.args.count)
masked-is c = under-halves c.args.count _ (known c)

masked-low : (c : goal.After-half_of-half) → masked c < 72057594037927936
masked-low c =
    let h = known c in
    let some = pow_pos (7 * c.args.count) in
    let m = mod_below (c.args.all + c.half_of-half.result) (2 ^ (7 * c.args.count)) some in
    omega (arith, masked-is c, m, h.below)

chosen-low : (c : goal.After-half_of-half) → c.half_of-half.result < 72057594037927936
chosen-low c =
    let w = half-within c.args.signed _ _ c.half_of-half.ensures in omega (arith, w, half-low c)

pub overflow_mul-sum : goal.overflow_mul-sum
overflow_mul-sum c = omega (arith, half-low c)

pub overflow_cast-result : goal.overflow_cast-result
overflow_cast-result c = omega (arith, ints, masked-low c)

pub overflow_cast-result-2 : goal.overflow_cast-result-2
overflow_cast-result-2 c = omega (arith, ints, chosen-low c)

pub overflow_sub-result : goal.overflow_sub-result
overflow_sub-result c =
    let a = to_z_pos w64 (masked c) (omega (arith, masked-low c)) in
    let b = to_z_pos w64 c.half_of-half.result (omega (arith, chosen-low c)) in
    rw (a, b) omega (arith, ints, masked-low c, chosen-low c)

pub returns : goal.returns
returns c = λ a q whole is all.
    let h = known c in
    let n = c.args.count in
    let b = 1 * 2 ^ (7 * n - 1) % 18446744073709551616 in
    let x = c.half_of-half.result in
    let is-p : b ≡ 2 ^ (7 * length a - 1) = rw is h.half in
    let is-r : 2 ^ (7 * n) ≡ 2 ^ (7 * length a) = rw is refl in
    let half : 2 * b ≡ 2 ^ (7 * n) = omega (arith, h.half, h.whole) in
    let same : masked c ≡ (groups a + 2 ^ (7 * n) * q + x) % 2 ^ (7 * n) =
    masked-is c ∙ ap (λ m. (m + x) % 2 ^ (7 * n)) all in
    let value : pos (masked c) -ℤ pos x ≡ (if c.args.signed then signed_groups a else pos (groups a)) =
    rw same (value-is c.args.signed x b (2 ^ (7 * n)) q a whole is-p is-r half c.half_of-half.ensures) in
    let fits : FitsSigned w64 (pos (masked c) -ℤ pos x) = omega (arith, ints, masked-low c, chosen-low c) in
    let low = to_z_pos w64 (masked c) (omega (arith, masked-low c)) in
    let chosen = to_z_pos w64 x (omega (arith, chosen-low c)) in
    rw (low, chosen) (to_z-of_z w64 (pos (masked c) -ℤ pos x) fits ∙ value)
