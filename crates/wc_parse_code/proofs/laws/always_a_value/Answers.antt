use Rattle.wc_parse_code.proofs.SomeValue.Instructions.{instrs-say, folded-say}
use Rattle.wc_parse_code.proofs.laws.always_a_value.Goals as goal

pub returns-clause-instrs : goal.returns-clause-instrs
returns-clause-instrs c = λ d n ks es us h k. let s = instrs-say d n ks es us h k in (s.0, s.1)

pub returns-clause-folded : goal.returns-clause-folded
returns-clause-folded c = λ d n ks es us h k. let s = folded-say d n ks es us h k in (s.0, s.1)
