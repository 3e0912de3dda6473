-- What is whole and fits is spelled: an integer without a sign.
use Rattle.std.proofs.Common.{◌≡◌, ℕ, ◌+◌, ◌-◌, ◌*◌, ◌%◌, ◌^◌, ◌<◌, List, [], ◌∷◌, length, inl, inr, refl}
use Rattle.std.proofs.Common.{arith}
use Rattle.wc_leb128.specs.Standard.Integers.{U}
use Rattle.wc_leb128.specs.Reading.Eight.{IsWhole, groups}
use Rattle.wc_leb128.proofs.Words.EightFront.{power_down}

pub unsigned-spelled : (N : ℕ) (a : List ℕ) → IsWhole a → 7 * length a < N + 7 → groups a < 2 ^ N → U N a (groups a)
unsigned-spelled N [] w few below = absurd w
unsigned-spelled N (b ∷ []) (inr s) few below = absurd s.2
unsigned-spelled N (b ∷ []) (inl s) few below =
    let lt = s.0 in
    let e : b % 128 + 128 * 0 ≡ b = omega (arith, lt) in
    let f : b % 128 + 128 * 0 < 2 ^ N = below in
    inl (lt, omega (arith, e, f), refl, e)
unsigned-spelled N (b ∷ (c ∷ bs)) (inl s) few below = let e = s.1 in absurd cc
unsigned-spelled N (b ∷ (c ∷ bs)) (inr s) few below =
    let more : 7 < N = omega (arith, few) in
    let p = power_down N (omega (arith, more)) in
    let f : b % 128 + 128 * groups (c ∷ bs) < 2 ^ N = below in
    let r = unsigned-spelled (N - 7) (c ∷ bs) s.2 (omega (arith, few, more)) (omega (arith, p, f)) in
    inr (s.0, s.1, more, groups (c ∷ bs), r, omega (arith, s.0, s.1))
