-- The bits of globals: those of two numbers joined, and those of one along a list of globals.
use Rattle.std.proofs.Common.{◌≡◌, ◌↔◌, ℕ, zero, suc, ◌+◌, ◌/◌, ◌%◌, ◌<◌, ◌^◌, max, true, false, not, bit_or}
use Rattle.std.proofs.Common.{if◌then◌else◌, List, ◌∷◌, length, get_or, drop, sym, ap, ◌∙◌, arith}
use Rattle.std.specs.Int.{bit_at}
use Rattle.std.proofs.lemmas.Bool.{lt-ltb}
use Rattle.std.proofs.lemmas.List.{drop_more}
use Rattle.std.proofs.lemmas.Nat.Bits.{bit_at_lowest, bit_at-suc, bit_at_or, bit_at-pow_same, bit_at-lt}
use Rattle.wc_ast.specs.declared.limits.GlobalType.{GlobalType}
use Rattle.wc_body.specs.Standard.Needed.{low_bit}
use Rattle.wc_check.specs.Judging.Enough.{AreMarkedSettable}

-- ---- of two numbers joined

pub bit-one : (a b n : ℕ) → bit_at a n ≡ 1 → bit_at (bit_or a b) n ≡ 1
bit-one a b n set = bit_at_or a b n ∙ high (bit_at b n) (bit_at-lt b n)
  where
    high : (other : ℕ) → other < 2 → max (bit_at a n) other ≡ 1
    high other lt = rw set (omega (arith, lt))

pub bit-other : (a b n : ℕ) → bit_at b n ≡ 1 → bit_at (bit_or a b) n ≡ 1
bit-other a b n set = bit_at_or a b n ∙ high (bit_at a n) (bit_at-lt a n)
  where
    high : (one : ℕ) → one < 2 → max one (bit_at b n) ≡ 1
    high one lt = rw set (omega (arith, lt))

-- the bit of an index below 64 is joined
pub bit-joins : (bits n : ℕ) → n < 64 → bit_at (bit_or bits (low_bit n)) n ≡ 1
bit-joins bits n lt =
    let low : low_bit n ≡ 2 ^ n = ap (λ b. if b then 2 ^ n else 0) (lt-ltb n 64 lt) in
    bit-other bits (low_bit n) n (rw low (bit_at-pow_same n))

-- ---- along the globals

module _ (g : GlobalType) (gs : List GlobalType) (bits : ℕ) where
  first : (bits % 2 ≡ 1 → g.mutable ≡ true) → AreMarkedSettable gs (bits / 2) → AreMarkedSettable (g ∷ gs) bits
  first one rest zero set = ap not (one (sym (bit_at_lowest bits) ∙ set))
  first one rest (suc n) set = rest n (sym (bit_at-suc bits n) ∙ set)

  step : (bits % 2 ≡ 1 → g.mutable ≡ true) → AreMarkedSettable gs (bits / 2) ↔ AreMarkedSettable (g ∷ gs) bits
  step one = (first one, λ all n set. all (suc n) (bit_at-suc bits n ∙ set))

  constant-first : bits % 2 ≡ 1 → g.mutable ≡ false → AreMarkedSettable (g ∷ gs) bits → ⊥
  constant-first one constant all =
      let none : not g.mutable ≡ false = all zero (bit_at_lowest bits ∙ one) in
      let some : not g.mutable ≡ true = ap not constant in
      cc

module _ (gs : List GlobalType) (i : ℕ) (d : GlobalType) (bits : ℕ) (lt : i < length gs) where
  -- all from this one on, where this one may be set
  pub marked-step : (bits % 2 ≡ 1 → (get_or gs i d).mutable ≡ true)
      → AreMarkedSettable (drop (i + 1) gs) (bits / 2) ↔ AreMarkedSettable (drop i gs) bits
  marked-step one = rw (drop_more gs i d lt) (step (get_or gs i d) (drop (i + 1) gs) bits one)

  -- not all, where it may not
  pub marked-constant : bits % 2 ≡ 1 → (get_or gs i d).mutable ≡ false → AreMarkedSettable (drop i gs) bits → ⊥
  marked-constant one constant all =
      constant-first (get_or gs i d) (drop (i + 1) gs) bits one constant (rw (drop_more gs i d lt) at all)
