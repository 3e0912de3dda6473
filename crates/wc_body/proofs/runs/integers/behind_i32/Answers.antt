use Rattle.std.proofs.Common.{[], ◌∷◌}
use Rattle.wc_body.proofs.Drafts.Runs.IntegerFronts.{spelled-one}
use Rattle.wc_body.proofs.runs.integers.behind_i32.Goals as goal

pub returns-then-first-lt128 : goal.returns-then-first-lt128
returns-then-first-lt128 c =
    (c.in_ok-first.first.now ∷ [], c.in_ok-first.ensures.cases.0, spelled-one _ c.if-first-lt128.true)

pub returns : goal.returns
returns c = rw c.in_ok-first.ensures.cases.0 c.behind_long_i32.ensures
