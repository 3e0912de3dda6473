-- Runs of mutable globals: what stands in one between its beginning and a global of it is mutable.
use Rattle.std.proofs.Common.{◌≡◌, ℕ, zero, suc, ◌+◌, ◌<◌, ◌≤◌, Bool, true, false, not, List, [], ◌∷◌, refl, ap, arith}
use Rattle.std.proofs.Common.{cond}
use Rattle.std.specs.Prelude.{slice_get, Some, ◌-◌}
use Rattle.wc_ast.specs.declared.limits.GlobalType.{GlobalType}
use Rattle.wc_check.specs.Standard.InstructionRules.{is_constant_at}
use Rattle.wc_check.specs.Judging.Enough.{run_starts, AreSettable}

-- ---- one global

forward : (b : Bool) (place start : ℕ) → start ≤ place → start ≤ cond b start (place + 1)
forward true place start le = omega arith
forward false place start le = omega (arith, le)

within : (b : Bool) (place start : ℕ) → start ≤ place → cond b start (place + 1) ≤ place + 1
within true place start le = omega (arith, le)
within false place start le = omega arith

kept : (b : Bool) (place start s : ℕ) → cond b start (place + 1) ≤ s → s ≤ place → b ≡ true
kept true place start s le few = refl
kept false place start s le few = absurd (omega (arith, le, few))

-- ---- all of them

-- no run begins before that of the globals that stand before
later : (place start : ℕ) (gs : List GlobalType) → start ≤ place → (k s : ℕ)
    → slice_get (run_starts place start gs) k ≡ Some s → start ≤ s
later place start [] le k s e = absurd cc
later place start (g ∷ gs) le zero s e =
    let same : cond g.mutable start (place + 1) ≡ s = cc in
    omega (arith, same, forward g.mutable place start le)
later place start (g ∷ gs) le (suc k) s e =
    let rest = later (place + 1) (cond g.mutable start (place + 1)) gs (within g.mutable place start le) k s e in
    omega (arith, rest, forward g.mutable place start le)

-- nor before that of the first of them
behind-first : (place start : ℕ) (g : GlobalType) (gs : List GlobalType) → start ≤ place → (k s : ℕ)
    → slice_get (run_starts place start (g ∷ gs)) k ≡ Some s → cond g.mutable start (place + 1) ≤ s
behind-first place start g gs le zero s e =
    let same : cond g.mutable start (place + 1) ≡ s = cc in omega (arith, same)
behind-first place start g gs le (suc k) s e =
    later (place + 1) (cond g.mutable start (place + 1)) gs (within g.mutable place start le) k s e

run-mutable : (place start : ℕ) (gs : List GlobalType) → start ≤ place → (k s n : ℕ)
    → slice_get (run_starts place start gs) k ≡ Some s → s ≤ place + n → n ≤ k → is_constant_at gs n ≡ false
run-mutable place start [] le k s n e low high = refl
run-mutable place start (g ∷ gs) le k s zero e low high =
    let behind = behind-first place start g gs le k s e in
    ap not (kept g.mutable place start s behind (omega (arith, low)))
run-mutable place start (g ∷ gs) le zero s (suc n) e low high = absurd (omega (arith, high))
run-mutable place start (g ∷ gs) le (suc k) s (suc n) e low high =
    run-mutable (place + 1) (cond g.mutable start (place + 1)) gs (within g.mutable place start le) k s n e
    (omega (arith, low)) (omega (arith, high))

-- where the run of the last one begins no later than the first, all of them are mutable
pub settable-run : (globals : List GlobalType) (first end start : ℕ) → 0 < end
    → slice_get (run_starts 0 0 globals) (end - 1) ≡ Some start → start ≤ first → AreSettable globals first end
settable-run globals first end start some e le =
    λ n low high. run-mutable 0 0 globals (omega arith) (end - 1) start n e (omega (arith, low, le)) (omega (
      arith,
      high,
      some,
    ))

pub some-number : (n : ℕ) → (n ≡ 0 → ⊥) → 0 < n
some-number zero other = absurd (other refl)
some-number (suc n) other = omega arith
