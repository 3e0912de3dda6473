use Rattle.std.proofs.Common.{drop}
use Rattle.std.specs.Prelude.{map}
use Rattle.wc_ast.specs.Standard.LocalGroups.{written_out}
use Rattle.wc_print.specs.Standard.Lines.{type_item}
use Rattle.wc_print.specs.Standard.Going.{Leaves}
use Rattle.wc_print.proofs.types.put_groups.Given as goal

abbrev pub invariant-loop-group : goal.invariant-loop-group
invariant-loop-group g l =
    Leaves g.S.Sink.Has (map type_item (written_out (drop l.group-index l.groups)))
    (map type_item (written_out l.groups))
    l.out l.initial.out
