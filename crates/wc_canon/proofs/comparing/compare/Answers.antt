use Rattle.wc_canon.proofs.Comparisons.{told-same, told-different, told-a, told-b}
use Rattle.wc_canon.proofs.comparing.compare.Goals as goal

pub returns-clause-same : goal.returns-clause-same
returns-clause-same c = told-same _ _ _ (c.compare_answers.ensures.ok, c.compare_answers.ensures.err)

pub returns-clause-different : goal.returns-clause-different
returns-clause-different c = told-different _ _ _ (c.compare_answers.ensures.ok, c.compare_answers.ensures.err)

pub returns-clause-refused_a : goal.returns-clause-refused_a
returns-clause-refused_a c = told-a _ _ _ (c.compare_answers.ensures.ok, c.compare_answers.ensures.err)

pub returns-clause-refused_b : goal.returns-clause-refused_b
returns-clause-refused_b c = told-b _ _ _ (c.compare_answers.ensures.ok, c.compare_answers.ensures.err)
