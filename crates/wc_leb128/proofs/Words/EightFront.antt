-- The signed integer that ends among the first eight bytes is the one that they begin with.
use Rattle.std.specs.Prelude.{◌↔◌}
use Rattle.std.proofs.Common.{◌≡◌, ℕ, zero, suc, ◌+◌, ◌-◌, ◌*◌, ◌%◌, ◌^◌, ◌<◌, ◌≤◌, ℤ, pos, ◌+ℤ◌, ◌-ℤ◌, ◌*ℤ◌, ◌≤ℤ◌}
use Rattle.std.proofs.Common.{◌<ℤ◌, List, [], ◌∷◌, ◌++◌, length, take, drop, inl, inr, refl, sym, ap, subst, ◌∙◌, arith}
use Rattle.std.proofs.lemmas.Bool.{cases_lt, lt-ltb, le-ltb}
use Rattle.std.proofs.lemmas.Int.{ints}
use Rattle.std.proofs.lemmas.List.{append_cancel_left, length-drop, length-take-le, take_all}
use Rattle.std.proofs.lemmas.Nat.{pow-add}
use Rattle.wc_leb128.specs.Standard.Integers.{S, IsAtFront}
use Rattle.wc_leb128.specs.Standard.Shortest.{HoldsSigned}
use Rattle.wc_leb128.specs.Reading.Eight.{IsWhole, EndsAmong, groups, signed_groups}
use Rattle.wc_leb128.proofs.Laws.SignedLaws.{one-value}
use Rattle.wc_leb128.proofs.Reading.Digits.{power_up}
use Rattle.wc_leb128.proofs.Reading.Front.{take-taken}

pub power_down : (k : ℕ) → 7 ≤ k → 2 ^ k ≡ 128 * 2 ^ (k - 7)
power_down k le = let e : k ≡ 7 + (k - 7) = omega (arith, le) in ap (λ x. 2 ^ x) e ∙ pow-add 2 7 (k - 7)

-- ---- what is whole and fits is spelled

less-holds : (r p q : ℕ) (z : ℤ) → r < 128 → q ≡ 128 * p
    → ((pos 0 -ℤ pos q) ≤ℤ ((pos 128 *ℤ z) +ℤ pos r)) × (((pos 128 *ℤ z) +ℤ pos r) <ℤ pos q)
    → ((pos 0 -ℤ pos p) ≤ℤ z) × (z <ℤ pos p)
less-holds r p q z lt e (low, high) = (omega (arith, ints, low, high, e, lt), omega (arith, ints, low, high, e, lt))

pub signed-spelled : (N : ℕ) (a : List ℕ) → IsWhole a → 7 * length a < N + 7 → HoldsSigned N (signed_groups a)
    → S N a (signed_groups a)
signed-spelled N [] w few holds = absurd w
signed-spelled N (b ∷ []) (inr s) few holds = absurd s.2
signed-spelled N (b ∷ []) (inl s) few holds =
    let lt = s.0 in
    elim (cases_lt b 64) [
      | inl low ↦
          let h = rw (lt-ltb b 64 low) at holds in
          let high = h.1 in
          rw (lt-ltb b 64 low) (inl (low, omega (arith, ints, high), refl, refl))
      | inr ge ↦
          let h = rw (le-ltb b 64 ge) at holds in
          let low = h.0 in
          rw (le-ltb b 64 ge) (inr (inl (ge, lt, omega (arith, ints, low), refl, refl)))
    ]
signed-spelled N (b ∷ (c ∷ bs)) (inl s) few holds = let e = s.1 in absurd cc
signed-spelled N (b ∷ (c ∷ bs)) (inr s) few holds =
    let more : 7 < N = omega (arith, few) in
    let e : N - 7 - 1 ≡ N - 1 - 7 = omega arith in
    let p : 2 ^ (N - 1) ≡ 128 * 2 ^ (N - 7 - 1) = rw e (power_down (N - 1) (omega (arith, more))) in
    let low = less-holds (b % 128) (2 ^ (N - 7 - 1)) (2 ^ (N - 1)) (signed_groups (c ∷ bs)) (omega arith) p holds in
    let r = signed-spelled (N - 7) (c ∷ bs) s.2 (omega (arith, few, more)) low in
    let ge = s.0 in
    let lt = s.1 in
    inr (inr (ge, lt, more, signed_groups (c ∷ bs), r, omega (arith, ints)))

-- ---- it and no other

pub only-signed : (N : ℕ) (v w : ℤ) (x y : List ℕ) → IsAtFront (S N) x w y → v ≡ w → (n : ℤ) (z : List ℕ)
    → IsAtFront (S N) x n z ↔ ((v ≡ n) × (y ≡ z))
only-signed N v w x y (a, e, s) is n z = (
  (λ (b, f, t).
      let both : a ++ y ≡ b ++ z = sym e ∙ f in
      let same = one-value N a b y z w n s t both in
      let back : a ++ y ≡ a ++ z = both ∙ ap (λ (c : List ℕ). c ++ z) (sym same.0) in
      (is ∙ same.1, append_cancel_left a y z back)),
  (λ (f, g).
      let P : ℤ → Type 0 = λ k. IsAtFront (S N) x k z in
      subst P (sym is ∙ f) (subst (IsAtFront (S N) x w) g (a, e, s))),
)

-- ---- the bytes at hand

pub rest-is : (n : ℕ) (xs : List ℕ) → take (length xs - n) (drop n xs) ≡ drop n xs
rest-is n xs = take_all (length xs - n) (drop n xs) (omega (arith, length-drop n xs))

split-more : (b g p q h : ℕ) → q ≡ 128 * p → b + 128 * (g + p * h) ≡ b + 128 * g + q * h
split-more b g p q h e =
    let f : 128 * p * h ≡ 128 * (p * h) = omega arith in
    let k : q * h ≡ 128 * (p * h) = ap (λ x. x * h) e ∙ f in
    omega (arith, k)

pub groups-parted : (n : ℕ) (xs : List ℕ) → n ≤ length xs
    → groups xs ≡ groups (take n xs) + 2 ^ (7 * n) * groups (drop n xs)
groups-parted zero xs le = omega arith
groups-parted (suc n) [] le = absurd (omega arith)
groups-parted (suc n) (x ∷ xs) le =
    ap (λ g. x % 128 + 128 * g) (groups-parted n xs (omega arith))
    ∙ split-more (x % 128) (groups (take n xs)) (2 ^ (7 * n)) (2 ^ (7 * suc n)) (groups (drop n xs)) (power_up n)

-- what is known of the bytes of the integer
pub record Parts (xs : List ℕ) (all n : ℕ) : Type 0 where
  pub long : length (take n xs) ≡ n
  pub whole : IsWhole (take n xs)
  pub some : 0 < n
  pub few : n ≤ 8
  pub split : all ≡ groups (take n xs) + 2 ^ (7 * n) * groups (drop n (take 8 xs))

some-whole : (n : ℕ) (xs : List ℕ) → IsWhole (take n xs) → 0 < n
some-whole zero xs w = absurd w
some-whole (suc n) xs w = omega arith

pub parts-of : (xs : List ℕ) (all n : ℕ) → EndsAmong xs all n → Parts xs all n
parts-of xs all n h =
    let enough = h.enough in
    let few = h.few in
    let eight = length-take-le 8 xs enough in
    let p = groups-parted n (take 8 xs) (omega (arith, eight, few)) in
    record {
      long = length-take-le n xs (omega (arith, enough, few));
      whole = h.whole;
      some = some-whole n xs h.whole;
      few = few;
      split = h.all_groups ∙ rw (take-taken n 8 xs few) at p;
    }
