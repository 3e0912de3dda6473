use Rattle.std.proofs.Common.{[], ◌∷◌, ◌∙◌}
use Rattle.wc_print.specs.Standard.Lines.{type_item}
use Rattle.wc_print.proofs.Writing.Going.{text}
use Rattle.wc_print.proofs.Reading.Naming.{type-spelled}
use Rattle.wc_print.proofs.types.put_value_type.Goals as goal

pub returns : goal.returns
returns g c =
    text (type_item c.args.value_type ∷ []) (type-spelled c.args.value_type, tt)
    (c.as_bytes.ensures.value ∙ c.value_text.ensures) c.put.ensures
