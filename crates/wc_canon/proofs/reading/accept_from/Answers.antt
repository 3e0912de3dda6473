use Rattle.wc_canon.specs.declared.from_reader.Found.{Found}
use Rattle.wc_canon.proofs.Streams.{module-unread, not-answered, accepts, near-refused}
use Rattle.wc_canon.proofs.FailedReads.{cut-refused, refused-fails-at}
use Rattle.wc_canon.proofs.reading.accept_from.Goals as goal

pub returns-in_err-found-clause-judges : goal.returns-in_err-found-clause-judges
returns-in_err-found-clause-judges g c =
    module-unread _ _ _ _ c.in_err-found.ensures.judges c.from_residual.ensures.1

pub returns-in_err-judge-clause-judges : goal.returns-in_err-judge-clause-judges
returns-in_err-judge-clause-judges g c =
    not-answered _ _ _ _ _ _ c.in_ok-found.ensures.judges c.in_err-judge.ensures.err
    c.from_residual-in_err-judge.ensures.1

pub returns-clause-judges : goal.returns-clause-judges
returns-clause-judges g c =
    accepts _ _ _ c.in_ok-found.ensures.judges c.in_ok-judge.ensures.keeps c.in_ok-judge.ensures.spelled

pub returns-in_err-judge-clause-near : goal.returns-in_err-judge-clause-near
returns-in_err-judge-clause-near g c =
    near-refused {W = Found} _ _ _ c.in_ok-found.found _ _ c.in_err-judge.ensures.err
    c.in_ok-found.ensures.near c.from_residual-in_err-judge.ensures.1

pub returns-in_err-judge-clause-first_failure : goal.returns-in_err-judge-clause-first_failure
returns-in_err-judge-clause-first_failure g c =
    refused-fails-at _ _ _ c.from_residual-in_err-judge.ensures.1

pub returns-in_err-judge-clause-cut : goal.returns-in_err-judge-clause-cut
returns-in_err-judge-clause-cut g c = cut-refused _ _ _ c.from_residual-in_err-judge.ensures.1
