use Rattle.wc_parse_field.proofs.Storing.Derived.{derived-stored}
use Rattle.wc_parse_field.proofs.laws.field_stored_as_said.Goals as goal

pub returns : goal.returns
returns c = derived-stored
