use Rattle.wc_parse_code.proofs.GrowthLemmas.{take-grows, ended-grows}
use Rattle.wc_parse_code.proofs.laws.what_was_said_stays.Goals as goal

pub returns-clause-token : goal.returns-clause-token
returns-clause-token c = take-grows

pub returns-clause-end : goal.returns-clause-end
returns-clause-end c = ended-grows
