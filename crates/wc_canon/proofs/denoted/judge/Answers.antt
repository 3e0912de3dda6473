use Rattle.std.proofs.Common.{sym}
use Rattle.wc_canon.proofs.Judged.{binary-accepted, text-accepted, module-refuses}
use Rattle.wc_canon.proofs.denoted.judge.Goals as goal

pub returns-then-is_binary-clause-ok : goal.returns-then-is_binary-clause-ok
returns-then-is_binary-clause-ok c =
    binary-accepted _ _ _ (sym c.if-is_binary.ensures) c.requires.denoted c.judge_module.ensures.keeps

pub returns-then-is_binary-clause-err : goal.returns-then-is_binary-clause-err
returns-then-is_binary-clause-err c = module-refuses _ _ _ c.requires.denoted c.judge_module.ensures.err

pub returns-clause-ok : goal.returns-clause-ok
returns-clause-ok c =
    let e = c.judge_spelled.ensures in text-accepted _ _ _ c.requires.denoted e.keeps e.spelled

pub returns-clause-err : goal.returns-clause-err
returns-clause-err c = module-refuses _ _ _ c.requires.denoted c.judge_spelled.ensures.err
