use Rattle.std.proofs.Common.{◌≡◌, ℕ, List, length, map, take}
use Rattle.std.specs.Borrow.{Bor}
use Rattle.wc_surface.specs.Kept.Keyed.{params_in}
use Rattle.wc_resolve_func.proofs.counts.param_counts.Given as goal

abbrev pub invariant-loop-key : goal.invariant-loop-key
invariant-loop-key l = l.counts.items ≡ map (λ (k : Bor (List ℕ)). length (params_in k.now)) (take l.key-index l.keys)
