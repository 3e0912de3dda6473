use Rattle.std.proofs.Common.{◌<◌, ◌^◌, List, arith, sym, subst, sum_by}
use Rattle.wc_surface.specs.Standard.Sizes.{field_size}
use Rattle.wc_surface.specs.declared.field.Field.{Field}
use Rattle.wc_declare.proofs.Growing.{few-types}
use Rattle.wc_declare.proofs.declared.declare.Goals as goal

pub gather-requires : goal.gather-requires
gather-requires c =
    let sized : sum_by field_size c.fields-fields.result.now < 2 ^ 32 =
    subst (λ (x : List Field). sum_by field_size x < 2 ^ 32) (sym c.fields-fields.ensures.fields)
    c.fields-fields.ensures.sized.sized in
    omega (arith, few-types c.fields-fields.result.now, sized)
