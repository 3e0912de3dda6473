use Rattle.wc_canon.proofs.Laws.{text-denotes}
use Rattle.wc_canon.proofs.Judged.{if-error, text-refused}
use Rattle.wc_canon.proofs.denoted.written_module.Goals as goal

pub returns-in_err-read-clause-err : goal.returns-in_err-read-clause-err
returns-in_err-read-clause-err c =
    if-error _ _ _ c.from_residual.ensures.1 (text-refused _ _ c.requires.textual c.in_err-read.ensures.fault)

pub returns-clause-ok : goal.returns-clause-ok
returns-clause-ok c = text-denotes _ _ c.requires.textual c.in_ok-read.ensures.ok
