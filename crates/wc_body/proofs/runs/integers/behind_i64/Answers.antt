use Rattle.std.proofs.Common.{[], ◌∷◌}
use Rattle.wc_body.proofs.Drafts.Runs.IntegerFronts.{spelled-one}
use Rattle.wc_body.proofs.runs.integers.behind_i64.Goals as goal

pub returns-then-first-lt128 : goal.returns-then-first-lt128
returns-then-first-lt128 c =
    let one = spelled-one c.in_ok-first.first.now c.if-first-lt128.true in
    (c.in_ok-first.first.now ∷ [], c.in_ok-first.ensures.cases.0, (one.0, one.1, one.3))

pub returns : goal.returns
returns c = rw c.in_ok-first.ensures.cases.0 c.behind_long_i64.ensures
