use Rattle.wc_parse_code.proofs.SizeLemmas.{take_use-size, take-size, ended-size}
use Rattle.wc_parse_code.proofs.laws.one_token_adds_one.Goals as goal

pub returns-clause-params : goal.returns-clause-params
returns-clause-params c = take_use-size

pub returns-clause-body : goal.returns-clause-body
returns-clause-body c = take-size

pub returns-clause-end : goal.returns-clause-end
returns-clause-end c = ended-size
