use Rattle.std.proofs.Common.{◌≡◌, ◌++◌, map, drop, length}
use Rattle.std.specs.List.{flat_map}
use Rattle.wc_spaces.specs.Kept.Labels.{IsLabels}
use Rattle.wc_spaces.specs.Standard.Least.{least_from}
use Rattle.wc_resolve_code.specs.Kept.Known.{Knows}
use Rattle.wc_resolve_code.specs.Standard.Contexts.{Context, Declared}
use Rattle.wc_resolve_code.specs.Standard.Operands.{index_in, index_faults}
use Rattle.wc_resolve_code.proofs.table.indices_of.Given as goal

abbrev pub invariant-loop-operand : goal.invariant-loop-operand
invariant-loop-operand l =
    (length l.indices.items ≡ l.operand-index)
    × ((c : Context) (ls : Declared) → Knows c l.around → IsLabels ls l.labels
    → (l.indices.items ++ map (index_in ls l.ids) (drop l.operand-index l.operands)
    ≡ map (index_in ls l.ids) l.operands)
    × (least_from l.noted.first (flat_map (index_faults ls l.ids) (drop l.operand-index l.operands))
    ≡ least_from l.initial.noted.first (flat_map (index_faults ls l.ids) l.operands)))
