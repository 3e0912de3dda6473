use Rattle.wc_parse_code.proofs.OneValue.Same.{one_value}
use Rattle.wc_parse_code.proofs.laws.one_value.Goals as goal

pub returns : goal.returns
returns c = λ p q us x y a b. one_value a b
