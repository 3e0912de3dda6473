use Rattle.std.proofs.Common.{rules}
use Rattle.wc_canon.proofs.Again.{sent-alike}
use Rattle.wc_canon.proofs.running.run.Goals as goal

-- written out, so that a wrong body is refused by these searches alone
pub returns-in_err-normalise_from-in-Binary-clause-quiet : goal.returns-in_err-normalise_from-in-Binary-clause-quiet
returns-in_err-normalise_from-in-Binary-clause-quiet g c = search rules

pub returns-in_ok-normalise_from-in-Binary-clause-answers : goal.returns-in_ok-normalise_from-in-Binary-clause-answers
returns-in_ok-normalise_from-in-Binary-clause-answers g c = search rules

pub returns-in_ok-accepted_from-in-Text-clause-back : goal.returns-in_ok-accepted_from-in-Text-clause-back
returns-in_ok-accepted_from-in-Text-clause-back g c = λ e.
    sent-alike _ _ _ _ _ c.in_ok-accepted_from-in-Text.ensures.judges c.send_text.ensures.ok c.send_text.ensures.appends
