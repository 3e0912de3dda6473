use Rattle.wc_canon.proofs.Laws.{answers-spell}
use Rattle.wc_canon.proofs.law.answers_spell.Goals as goal

pub returns : goal.returns
returns c = answers-spell
