use Rattle.std.proofs.Common.{drop}
use Rattle.std.specs.List.{flat_map}
use Rattle.wc_print.specs.Standard.Going.{Leaves}
use Rattle.wc_print.proofs.field.put_all.Given as goal

abbrev pub invariant-loop-field : goal.invariant-loop-field
invariant-loop-field g l = Leaves g.S.Sink.Has (flat_map g.F.Field.items (drop l.field-index l.fields))
    (flat_map g.F.Field.items l.fields) l.out l.initial.out
