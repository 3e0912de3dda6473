use Rattle.wc_binary.proofs.spelling.whole.Modules.{one-canonical}
use Rattle.wc_binary.proofs.phrases.Freed.{canon-bin}
use Rattle.wc_binary.proofs.law.one_canonical.Goals as goal

pub returns-clause-spells : goal.returns-clause-spells
returns-clause-spells c = canon-bin

pub returns-clause-one : goal.returns-clause-one
returns-clause-one c = one-canonical
