use Rattle.std.proofs.Common.{inr}
use Rattle.wc_canon.proofs.Laws.{binary-denotes, has-binary-fault}
use Rattle.wc_canon.proofs.denoted.spelled_module.Goals as goal

pub returns-in-Ok-clause-ok : goal.returns-in-Ok-clause-ok
returns-in-Ok-clause-ok c = binary-denotes _ _ c.requires.binary c.in-Ok.ensures.decodes

pub returns-in-Bad-clause-err : goal.returns-in-Bad-clause-err
returns-in-Bad-clause-err c =
    inr (has-binary-fault _ _ _ c.requires.binary (rw c.in-Bad.is at c.in-Err.ensures.decodes))
