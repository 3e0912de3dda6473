use Rattle.std.proofs.Common.{◌≡◌, ◌++◌, map, drop}
use Rattle.wc_surface.specs.Standard.WrittenLocals.{written_out}
use Rattle.wc_resolve_func.proofs.local_types.local_types.Given as goal

abbrev pub invariant-loop-group : goal.invariant-loop-group
invariant-loop-group l = l.types ++ map (λ x. x.ty) (written_out (drop l.group-index l.groups)) ≡ map (λ x.
    x.ty) (written_out l.groups)
