use Rattle.wc_body.proofs.Drafts.Runs.IntegerFronts.{unsigned-one, unsigned-two}
use Rattle.std.proofs.Common.{◌<◌, arith, rules}
use Rattle.wc_body.proofs.runs.integers.unsigned_front.Goals as goal

pub returns-then-first-lt128 : goal.returns-then-first-lt128
returns-then-first-lt128 c =
    unsigned-one _ _ _ c.from.result c.in_ok-first.ensures.cases.0 c.from.ensures c.if-first-lt128.true

pub returns : goal.returns
returns c =
    let e = c.in_ok-first.ensures.cases.0 in
    let byte : c.in_ok-first.first.now < 256 = search rules in
    unsigned-two _ _ _ _ _ _ e c.in_ok-second.ensures.cases.0
    (omega (arith, c.from-2.ensures, c.from-3.ensures)) c.if-first-lt128.false byte c.if-second-eq0.false
    c.if-second-ge128.false
