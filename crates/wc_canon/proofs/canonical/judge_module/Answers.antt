use Rattle.wc_canon.proofs.Judged.{if-error, keeps-rules, broken-refusal}
use Rattle.wc_canon.proofs.canonical.judge_module.Goals as goal

pub returns-in_err-check-clause-err : goal.returns-in_err-check-clause-err
returns-in_err-check-clause-err c =
    if-error _ _ _ c.from_residual.ensures.1 (broken-refusal _ _ c.in_err-check.ensures.err)

pub returns-clause-keeps : goal.returns-clause-keeps
returns-clause-keeps c = keeps-rules _ c.in_ok-check.ensures.ok
