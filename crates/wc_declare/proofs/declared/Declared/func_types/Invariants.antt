use Rattle.std.proofs.Common.{◌≡◌, ℕ, List, map, take}
use Rattle.std.specs.Borrow.{Bor}
use Rattle.wc_surface.specs.Kept.Keyed.{keyed}
use Rattle.wc_declare.proofs.declared.Declared.func_types.Given as goal

abbrev pub invariant-loop-key : goal.invariant-loop-key
invariant-loop-key l = l.types.items ≡ map (λ (k : Bor (List ℕ)). keyed k.now) (take l.key-index l.key-items)
