use Rattle.std.proofs.Common.{drop}
use Rattle.std.specs.List.{flat_map}
use Rattle.wc_print.specs.Standard.Layout.{table_items}
use Rattle.wc_print.specs.Standard.Going.{Leaves}
use Rattle.wc_print.proofs.definitions.put_tables.Given as goal

abbrev pub invariant-loop-limits : goal.invariant-loop-limits
invariant-loop-limits g l = Leaves g.S.Sink.Has (flat_map table_items (drop l.limits-index l.tables))
    (flat_map table_items l.tables) l.out l.initial.out
