use Rattle.std.proofs.Common.{◌≡◌, ◌++◌, take, map}
use Rattle.wc_check.proofs.context.add_globals.Given as goal

abbrev pub invariant-loop-global : goal.invariant-loop-global
invariant-loop-global l = l.types.items ≡ l.initial.types.items ++ map (λ g. g.ty) (take l.global-index l.globals)
