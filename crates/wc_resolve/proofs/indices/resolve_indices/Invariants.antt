use Rattle.std.proofs.Common.{◌≡◌, ℕ, List, Option, ◌++◌, drop}
use Rattle.wc_spaces.specs.Standard.Least.{least_from}
use Rattle.wc_spaces.specs.Kept.Spaces.{IsSpace}
use Rattle.wc_resolve.specs.Standard.Indices.{indices_of, unknown_of}
use Rattle.wc_resolve.proofs.indices.resolve_indices.Given as goal

abbrev pub invariant-loop-index : goal.invariant-loop-index
invariant-loop-index l = record {
  value : (ds : List (Option (List ℕ))) → IsSpace ds l.space
      → l.found.items ++ indices_of ds (drop l.index-index l.indices) ≡ indices_of ds l.indices;
  noted : (ds : List (Option (List ℕ))) → IsSpace ds l.space
      → least_from l.noted.first (unknown_of ds (drop l.index-index l.indices))
      ≡ least_from l.initial.noted.first (unknown_of ds l.indices);
}
