use Rattle.std.proofs.Common.{refl}
use Rattle.wc_canon.specs.declared.from_reader.Found.{Found}
use Rattle.wc_canon.proofs.Streams.{module-unread, not-answered, printed, near-refused}
use Rattle.wc_canon.proofs.FailedReads.{cut-refused, refused-fails-at}
use Rattle.wc_canon.proofs.reading.accepted_from.Goals as goal

pub returns-in_err-found-clause-judges : goal.returns-in_err-found-clause-judges
returns-in_err-found-clause-judges g c =
    module-unread _ _ _ _ c.in_err-found.ensures.judges c.from_residual.ensures.1

pub returns-in_err-judge_spelled-clause-judges : goal.returns-in_err-judge_spelled-clause-judges
returns-in_err-judge_spelled-clause-judges g c =
    not-answered _ _ _ _ _ _ c.in_ok-found.ensures.judges c.in_err-judge_spelled.ensures.err
    c.from_residual-in_err-judge_spelled.ensures.1

pub returns-clause-judges : goal.returns-clause-judges
returns-clause-judges g c =
    let e = c.in_ok-judge_spelled.ensures in
    printed _ _ _ _ _ c.in_ok-found.ensures.judges e.keeps e.spelled.1 refl

pub returns-in_err-judge_spelled-clause-near : goal.returns-in_err-judge_spelled-clause-near
returns-in_err-judge_spelled-clause-near g c =
    near-refused {W = Found} _ _ _ c.in_ok-found.found _ _ c.in_err-judge_spelled.ensures.err
    c.in_ok-found.ensures.near c.from_residual-in_err-judge_spelled.ensures.1

pub returns-in_err-judge_spelled-clause-first_failure : goal.returns-in_err-judge_spelled-clause-first_failure
returns-in_err-judge_spelled-clause-first_failure g c =
    refused-fails-at _ _ _ c.from_residual-in_err-judge_spelled.ensures.1

pub returns-in_err-judge_spelled-clause-cut : goal.returns-in_err-judge_spelled-clause-cut
returns-in_err-judge_spelled-clause-cut g c = cut-refused _ _ _ c.from_residual-in_err-judge_spelled.ensures.1
