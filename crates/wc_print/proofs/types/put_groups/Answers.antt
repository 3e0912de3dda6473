use Rattle.std.proofs.Common.{map, replicate, refl}
use Rattle.wc_ast.specs.Standard.LocalGroups.{written_out}
use Rattle.wc_print.specs.Standard.Lines.{type_item}
use Rattle.wc_print.proofs.Writing.Going.{each-less, each-none}
use Rattle.wc_print.proofs.Writing.Values.{map-written}
use Rattle.wc_print.proofs.types.put_groups.Goals as goal

pub loop-group-preserved : goal.loop-group-preserved
loop-group-preserved g c =
    each-less (λ gs. map type_item (written_out gs)) (λ g.
    map type_item (replicate g.count g.value_type)) refl map-written
    c.args.groups.now c.loop-group.group-index _ _ refl c.loop-group-test.true c.put_group.ensures
    c.loop-group.invariant

pub returns : goal.returns
returns g c =
    each-none (λ gs. map type_item (written_out gs)) (λ g.
    map type_item (replicate g.count g.value_type)) refl map-written
    c.args.groups.now c.loop-group.group-index c.loop-group-test.false c.loop-group.invariant
