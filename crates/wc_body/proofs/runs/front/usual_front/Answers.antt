use Rattle.wc_body.proofs.runs.front.usual_front.Goals as goal

pub returns-in-Some-clause-some : goal.returns-in-Some-clause-some
returns-in-Some-clause-some c =
    (_, _, c.in-Some.ensures.some _, c.after_marks.ensures)
