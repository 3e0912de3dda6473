use Rattle.std.proofs.Common.{◌+◌, length, drop, arith, ap, length-append, refl, List}
use Rattle.wc_surface.specs.declared.type_use.TypeUse.{TypeUse}
use Rattle.wc_declare.specs.Standard.Types.{types_of, uses_of, all_uses, written_types}
use Rattle.wc_declare.proofs.Growing.{listed-more, fields-next, few-types}
use Rattle.wc_declare.proofs.listing.final_types.Goals as goal

pub loop-field-init : goal.loop-field-init
loop-field-init c = record {
  few = omega (arith, few-types c.args.fields.now, c.requires.sized, c.requires.count);
  listing = record { so_far = written_types c.args.fields.now; listed = c.requires.types; whole = refl };
}

pub loop-field-preserved : goal.loop-field-preserved
loop-field-preserved c =
    let next = fields-next c.args.fields.now c.loop-field.field-index c.field-item.result c.loop-field-test.true
    c.field-item.is in
    record {
      few = omega (
        arith,
        c.loop-field.invariant.few,
        c.in_ok-add_inner.ensures.count,
        ap (λ (x : List TypeUse). length x) next,
        length-append (uses_of c.field-item.result) (all_uses (drop (c.loop-field.field-index + 1) c.args.fields.now)),
      );
      listing = listed-more (types_of c.args.fields.now) c.loop-field.types c.add_inner.new.types _
          (uses_of c.field-item.result) _
          next c.loop-field.invariant.listing
          c.in_ok-add_inner.ensures.types;
    }
