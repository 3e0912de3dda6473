use Rattle.std.proofs.Common.{◌≡◌, ◌<◌, ◌-◌, ◌*◌, ◌+◌, ◌%◌, ◌^◌, ap, sym, ◌∙◌, arith, w64, pos, ℕ, bit_and}
use Rattle.std.proofs.Common.{FitsSigned, ◌-ℤ◌}
use Rattle.std.proofs.lemmas.Int.{ints, to_z_pos, to_z-of_z}
use Rattle.std.proofs.lemmas.Nat.{mod_below}
use Rattle.std.proofs.Math.Pow.{pow_pos}
use Rattle.wc_leb128.specs.Reading.Eight.{groups, signed_groups}
use Rattle.wc_leb128.proofs.Words.Groups.{groups-below, Halves, halves, under-halves, IsSigned, signed-cases}
use Rattle.wc_leb128.proofs.Words.Groups.{turned-back}
use Rattle.wc_leb128.proofs.eight.signed_of.Goals as goal

known : (c : goal.Start) → Halves c.args.count
known c = halves c.args.count c.requires.some.0 c.requires.some.1

-- the masked number
abbrev masked : goal.Start → ℕ
masked c =
    bit_and (c.args.all + 1 * 2 ^ (7 * c.args.count - 1) % 18446744073709551616)
    (2 * (1 * 2 ^ (7 * c.args.count - 1) % 18446744073709551616) - 1)

masked-is : (c : goal.Start) → masked c ≡ (c.args.all + 2 ^ (7 * c.args.count - 1)) % 2 ^ (7 * c.args.count)
masked-is c =
    let h = known c in
    under-halves c.args.count _ h ∙ ap (λ x. (c.args.all + x) % 2 ^ (7 * c.args.count)) h.half

masked-below : (c : goal.Start) → masked c < 72057594037927936
masked-below c =
    let h = known c in
    let some = pow_pos (7 * c.args.count) in
    let m = mod_below (c.args.all + 2 ^ (7 * c.args.count - 1)) (2 ^ (7 * c.args.count)) some in
    omega (arith, masked-is c, m, h.below)

half-below : (c : goal.Start) → 1 * 2 ^ (7 * c.args.count - 1) % 18446744073709551616 < 72057594037927936
half-below c =
    let h = known c in
    let some = pow_pos (7 * c.args.count - 1) in
    omega (arith, h.half, h.whole, h.below, some)

pub overflow_mul-turned : goal.overflow_mul-turned
overflow_mul-turned c = omega (arith, half-below c)

pub overflow_cast-result : goal.overflow_cast-result
overflow_cast-result c = omega (arith, ints, masked-below c)

pub overflow_cast-result-2 : goal.overflow_cast-result-2
overflow_cast-result-2 c = omega (arith, ints, half-below c)

pub overflow_sub-result : goal.overflow_sub-result
overflow_sub-result c =
    let a = to_z_pos w64 (masked c) (omega (arith, masked-below c)) in
    let b = to_z_pos w64 (1 * 2 ^ (7 * c.args.count - 1) % 18446744073709551616) (omega (arith, half-below c)) in
    rw (a, b) omega (arith, ints, masked-below c, half-below c)

pub returns : goal.returns
returns c = λ a q whole is all.
    let h = known c in
    let x = masked c in
    let y = 1 * 2 ^ (7 * c.args.count - 1) % 18446744073709551616 in
    let below : groups a < 2 ^ (7 * c.args.count) = rw is at (groups-below a) in
    let cases : IsSigned (2 ^ (7 * c.args.count - 1)) (groups a) (signed_groups a) = rw is at (signed-cases a whole) in
    let back =
    turned-back (groups a) (2 ^ (7 * c.args.count - 1)) (2 ^ (7 * c.args.count)) q (signed_groups a) (sym h.whole) below
    cases in
    let same : x ≡ (groups a + 2 ^ (7 * c.args.count) * q + 2 ^ (7 * c.args.count - 1)) % 2 ^ (7 * c.args.count) =
    masked-is c ∙ ap (λ n. (n + 2 ^ (7 * c.args.count - 1)) % 2 ^ (7 * c.args.count)) all in
    let value : pos x -ℤ pos y ≡ signed_groups a = rw (same, h.half) back in
    let fits : FitsSigned w64 (pos x -ℤ pos y) = omega (arith, ints, masked-below c, half-below c) in
    let low = to_z_pos w64 x (omega (arith, masked-below c)) in
    let half = to_z_pos w64 y (omega (arith, half-below c)) in
    rw (low, half) (to_z-of_z w64 (pos x -ℤ pos y) fits ∙ value)
