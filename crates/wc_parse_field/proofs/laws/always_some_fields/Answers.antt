use Rattle.wc_parse_field.proofs.SomeValue.Fields.{text-say}
use Rattle.wc_parse_field.proofs.laws.always_some_fields.Goals as goal

pub returns : goal.returns
returns c = λ d n ks es us h k. let s = text-say d n ks es us h k in (s.0, s.1)
