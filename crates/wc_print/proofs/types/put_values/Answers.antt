use Rattle.std.proofs.Common.{[], ◌∷◌, map, refl, ◌∙◌}
use Rattle.wc_print.specs.Standard.Lines.{type_item}
use Rattle.wc_print.proofs.Writing.Going.{each-less, each-none}
use Rattle.wc_print.proofs.Writing.Values.{values-put, not-empty}
use Rattle.wc_print.proofs.types.put_values.Goals as goal

pub loop-value_type-preserved : goal.loop-value_type-preserved
loop-value_type-preserved g c =
    each-less (map type_item) (λ t. type_item t ∷ []) refl (λ t ts. refl) c.args.value_types.now
    c.loop-value_type.value_type-index _ _ refl c.loop-value_type-test.true c.put_value_type.ensures
    c.loop-value_type.invariant

pub returns : goal.returns
returns g c = λ w e h.
    values-put w c.args.value_types.now (not-empty _ c.if-is_empty.ensures) h (c.as_bytes.ensures.value ∙ e)
    c.put.ensures
    (each-none (map type_item) (λ t. type_item t ∷ []) refl (λ t ts. refl) c.args.value_types.now
    c.loop-value_type.value_type-index c.loop-value_type-test.false c.loop-value_type.invariant)
    c.put-2.ensures
