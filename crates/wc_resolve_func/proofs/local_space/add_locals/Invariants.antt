use Rattle.std.proofs.Common.{◌+◌, ◌<◌, ◌^◌, ℕ, List, Option, length, drop}
use Rattle.wc_spaces.specs.Kept.Spaces.{IsSpace, size_of}
use Rattle.wc_surface.specs.Standard.WrittenLocals.{written_out}
use Rattle.wc_declare.specs.Standard.Inner.{local_ids}
use Rattle.wc_resolve_func.proofs.Behind.{Growing}
use Rattle.wc_resolve_func.proofs.local_space.add_locals.Given as goal

abbrev pub invariant-loop-group : goal.invariant-loop-group
invariant-loop-group l = record {
  few : size_of l.space + length (written_out (drop l.group-index l.groups)) < 2 ^ 32;
  growing : (ds : List (Option (List ℕ))) → IsSpace ds l.initial.space
      → Growing l.space ds (local_ids (written_out l.groups)) (local_ids (written_out (drop l.group-index l.groups)));
}
