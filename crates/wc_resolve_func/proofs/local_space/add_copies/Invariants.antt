use Rattle.std.proofs.Common.{◌≡◌, ◌+◌, ◌-◌, ℕ, List, Option}
use Rattle.wc_spaces.specs.Kept.Spaces.{IsSpace, size_of}
use Rattle.wc_declare.specs.Kept.Seen.{copies}
use Rattle.wc_resolve_func.proofs.Behind.{Growing}
use Rattle.wc_resolve_func.proofs.local_space.add_copies.Given as goal

abbrev pub invariant-loop-done : goal.invariant-loop-done
invariant-loop-done l = record {
  size : size_of l.space ≡ size_of l.initial.space + l._done;
  growing : (ds : List (Option (List ℕ))) → IsSpace ds l.initial.space
      → Growing l.space ds (copies l.count l.id) (copies (l.count - l._done) l.id);
}
