use Rattle.wc_canon.proofs.Comparisons.{compared-sides, side-accepted}
use Rattle.wc_canon.proofs.comparing_from.compare_from.Goals as goal

pub returns-in-Ok-Ok-clause-compares : goal.returns-in-Ok-Ok-clause-compares
returns-in-Ok-Ok-clause-compares g c =
    let first = rw c.in-Ok-Ok.is-0 at c.in-Ok.ensures.judged in
    let second = rw c.in-Ok-Ok.is-1 at c.in-Ok-judge_from.ensures.judged in
    compared-sides _ _ _ _ _ _ _ first second c.as_slice.ensures.value c.as_slice-in-Ok-Ok.ensures.value
    c.tell_apart.ensures

pub returns-in-Ok-Err-clause-compares : goal.returns-in-Ok-Err-clause-compares
returns-in-Ok-Err-clause-compares g c =
    let first = rw c.in-Ok-Err.is-0 at c.in-Ok.ensures.judged in
    let second = rw c.in-Ok-Err.is-1 at c.in-Ok-judge_from.ensures.judged in
    (side-accepted _ _ first, second)
