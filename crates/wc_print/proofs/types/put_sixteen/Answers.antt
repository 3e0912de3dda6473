use Rattle.std.proofs.Common.{◌∙◌, map, replicate}
use Rattle.wc_print.specs.Standard.Lines.{type_item}
use Rattle.wc_print.proofs.Writing.Going.{text}
use Rattle.wc_print.proofs.Reading.Naming.{types-spelled}
use Rattle.wc_print.proofs.types.put_sixteen.Goals as goal

pub returns : goal.returns
returns g c =
    text (map type_item (replicate 16 c.args.value_type)) (types-spelled 16 c.args.value_type)
    (c.as_bytes.ensures.value ∙ c.sixteen_text.ensures) c.put.ensures
