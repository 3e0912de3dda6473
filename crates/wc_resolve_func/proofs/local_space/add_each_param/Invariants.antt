use Rattle.std.proofs.Common.{◌≡◌, ◌+◌, ◌-◌, ◌≤◌, ℕ, List, Option, drop}
use Rattle.wc_spaces.specs.Kept.Spaces.{IsSpace, size_of}
use Rattle.wc_resolve_func.specs.Standard.Locals.{params_from}
use Rattle.wc_resolve_func.proofs.Behind.{Growing}
use Rattle.wc_resolve_func.proofs.local_space.add_each_param.Given as goal

abbrev pub invariant-loop-place : goal.invariant-loop-place
invariant-loop-place l = record {
  size : size_of l.space ≡ size_of l.initial.space + l.place;
  used : l.next ≤ l.place;
  growing : (ds : List (Option (List ℕ))) → IsSpace ds l.initial.space
      → Growing l.space ds (params_from 0 l.count l.names) (params_from l.place (l.count - l.place)
      (drop l.next l.names));
}
