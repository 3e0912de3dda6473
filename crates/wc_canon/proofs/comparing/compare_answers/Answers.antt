use Rattle.wc_canon.proofs.Comparisons.{compared}
use Rattle.wc_canon.proofs.Comparisons.{refused-first, refused-second}
use Rattle.wc_canon.specs.Standard.Comparing.{IsSideRefused}
use Rattle.wc_canon.proofs.Judged.{if-error}
use Rattle.wc_canon.proofs.comparing.compare_answers.Goals as goal

pub returns-in_err-first-clause-err : goal.returns-in_err-first-clause-err
returns-in_err-first-clause-err c =
    let refused = refused-first _ _ _ c.in_err-first.ensures.side c.in_err-first.ensures.err in
    if-error _ _ (λ e. IsSideRefused _ _ e.0 e.1) c.from_residual.ensures.1 refused

pub returns-in_err-second-clause-err : goal.returns-in_err-second-clause-err
returns-in_err-second-clause-err c =
    let e = c.in_err-second.ensures in
    let refused = refused-second _ _ _ _ c.in_ok-first.ensures.ok e.side e.err in
    if-error _ _ (λ e. IsSideRefused _ _ e.0 e.1) c.from_residual-in_err-second.ensures.1 refused

pub returns-clause-ok : goal.returns-clause-ok
returns-clause-ok c =
    compared _ _ _ _ _ _ _ c.in_ok-first.ensures.ok c.in_ok-second.ensures.ok c.as_slice.ensures.value
    c.as_slice-2.ensures.value c.tell_apart.ensures
