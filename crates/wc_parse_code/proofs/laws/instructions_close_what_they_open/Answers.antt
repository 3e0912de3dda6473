use Rattle.std.proofs.Common.{refl}
use Rattle.wc_parse_code.proofs.InstrLemmas.{instrs-derived, folded-derived}
use Rattle.wc_parse_code.proofs.laws.instructions_close_what_they_open.Goals as goal

pub returns-clause-instrs : goal.returns-clause-instrs
returns-clause-instrs c = instrs-derived

pub returns-clause-folded : goal.returns-clause-folded
returns-clause-folded c = folded-derived

pub returns-clause-first : goal.returns-clause-first
returns-clause-first c = record { around = refl; held = refl; blocks = refl }
