use Rattle.wc_parse_field.proofs.OneValue.Fields.{one_list}
use Rattle.wc_parse_field.proofs.laws.one_list_of_fields.Goals as goal

pub returns : goal.returns
returns c = λ us fields others a b. one_list a b
