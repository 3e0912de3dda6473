use Rattle.wc_binary.proofs.reading.ahead.FrontCode.{bare-adds}
use Rattle.wc_binary.proofs.decoder.code.push_front.Goals as goal

pub returns-clause-ok : goal.returns-clause-ok
returns-clause-ok c = bare-adds _ _ _ _ c.in-Some.ensures (rw c.if-not-branch.false at c.in_ok-push_spelled.ensures.ok)
