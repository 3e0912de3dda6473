use Rattle.std.proofs.Common.{drop}
use Rattle.std.specs.Prelude.{map}
use Rattle.wc_print.specs.Standard.Lines.{type_item}
use Rattle.wc_print.specs.Standard.Going.{Leaves}
use Rattle.wc_print.proofs.types.put_values.Given as goal

abbrev pub invariant-loop-value_type : goal.invariant-loop-value_type
invariant-loop-value_type g l = Leaves g.S.Sink.Has (map type_item (drop l.value_type-index l.value_types))
    (map type_item l.value_types) l.out l.initial.out
