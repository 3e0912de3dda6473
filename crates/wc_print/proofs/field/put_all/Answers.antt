use Rattle.std.proofs.Common.{refl}
use Rattle.std.specs.List.{flat_map}
use Rattle.wc_print.proofs.Writing.Going.{each-less, each-none}
use Rattle.wc_print.proofs.field.put_all.Goals as goal

pub loop-field-preserved : goal.loop-field-preserved
loop-field-preserved g c =
    each-less (flat_map g.F.Field.items) g.F.Field.items refl (λ x xs. refl) c.args.fields.now c.loop-field.field-index
    c.field-item.result _ c.field-item.is c.loop-field-test.true c.put.ensures c.loop-field.invariant

pub returns : goal.returns
returns g c =
    each-none (flat_map g.F.Field.items) g.F.Field.items refl (λ x xs. refl) c.args.fields.now c.loop-field.field-index
    c.loop-field-test.false c.loop-field.invariant
