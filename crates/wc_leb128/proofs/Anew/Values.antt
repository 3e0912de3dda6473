-- The lowest groups of a number, with a sign or without one.
use Rattle.std.proofs.Common.{◌≡◌, ℕ, ◌+◌, ◌-◌, ◌*◌, ◌%◌, ◌^◌, ◌<◌, ◌≤◌, pos, ◌-ℤ◌, Bool, true, false, List, length}
use Rattle.std.proofs.Common.{if◌then◌else◌, sym, ap, ◌∙◌, arith}
use Rattle.std.proofs.lemmas.Int.{ints}
use Rattle.std.proofs.lemmas.Nat.{mod-mul-add}
use Rattle.wc_leb128.specs.Reading.Eight.{IsWhole, groups, signed_groups}
use Rattle.wc_leb128.proofs.Words.Groups.{groups-below, IsSigned, signed-cases, turned-back}

pub half-within : (s : Bool) (x y : ℕ) → x ≡ (if s then y else 0) → x ≤ y
half-within true x y e = omega (arith, e)
half-within false x y e = omega (arith, e)

-- p is the half of r
pub value-is : (s : Bool) (x p r q : ℕ) (a : List ℕ) → IsWhole a → p ≡ 2 ^ (7 * length a - 1) → r ≡ 2 ^ (7 * length a)
    → 2 * p ≡ r → x ≡ (if s then p else 0)
    → pos ((groups a + r * q + x) % r) -ℤ pos x ≡ (if s then signed_groups a else pos (groups a))
value-is true x p r q a whole is-p is-r half e =
    let cases : IsSigned p (groups a) (signed_groups a) = rw is-p (signed-cases a whole) in
    let below : groups a < r = rw is-r (groups-below a) in
    rw e (turned-back (groups a) p r q (signed_groups a) (sym half) below cases)
value-is false x p r q a whole is-p is-r half e =
    let below : groups a < r = rw is-r (groups-below a) in
    let f : groups a + r * q + x ≡ q * r + groups a = omega (arith, e) in
    let m : (groups a + r * q + x) % r ≡ groups a = ap (λ n. n % r) f ∙ mod-mul-add q r (groups a) below in
    rw m omega (arith, ints, e)
