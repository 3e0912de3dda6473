use Rattle.std.proofs.Common.{◌+◌, ◌≤◌, List, map, drop}
use Rattle.wc_ast.specs.declared.func_type.FuncType.{FuncType}
use Rattle.wc_spaces.specs.Kept.Types.{AreTypes, count_of}
use Rattle.wc_surface.specs.Standard.Keys.{key_of}
use Rattle.wc_declare.specs.Standard.Types.{with_uses}
use Rattle.wc_declare.proofs.Growing.{Listing}
use Rattle.wc_declare.proofs.listing.add_uses.Given as goal

abbrev pub invariant-loop-used : goal.invariant-loop-used
invariant-loop-used l = record {
  few : count_of l.types ≤ count_of l.initial.types + l.used-index;
  listing : (ts : List FuncType) → AreTypes (map key_of ts) l.initial.types
      → Listing (with_uses ts l.uses) l.types (drop l.used-index l.uses);
}
