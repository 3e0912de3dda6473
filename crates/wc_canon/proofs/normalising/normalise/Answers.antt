use Rattle.wc_canon.proofs.Judged.{module-judged, judged-only, judged-fault, match-error, never-meant, that-fault}
use Rattle.wc_canon.proofs.Judged.{none-longer}
use Rattle.wc_canon.proofs.Laws.{denotes-binary}
use Rattle.wc_canon.proofs.normalising.normalise.Goals as goal

pub returns-in_err-module-clause-only : goal.returns-in_err-module-clause-only
returns-in_err-module-clause-only c = λ m p.
    match-error _ _ _ _ c.from_residual.ensures.1 (never-meant _ m _ c.in_err-module.ensures.err p)

pub returns-in_err-module-clause-only_fault : goal.returns-in_err-module-clause-only_fault
returns-in_err-module-clause-only_fault c = λ g p.
    match-error _ _ _ _ c.from_residual.ensures.1 (that-fault _ _ g c.in_err-module.ensures.err p)

pub returns-clause-ok : goal.returns-clause-ok
returns-clause-ok c =
    let e = c.canonical_bytes.ensures in
    (module-judged (λ v. v.items) _ _ _ c.in_ok-module.ensures.ok e.keeps e.canonical e.err).0

pub returns-clause-err : goal.returns-clause-err
returns-clause-err c =
    let e = c.canonical_bytes.ensures in
    (module-judged (λ v. v.items) _ _ _ c.in_ok-module.ensures.ok e.keeps e.canonical e.err).1

pub returns-clause-only : goal.returns-clause-only
returns-clause-only c =
    let e = c.canonical_bytes.ensures in
    judged-only (λ v. v.items) _ _
    (module-judged (λ v. v.items) _ _ _ c.in_ok-module.ensures.ok e.keeps e.canonical e.err)

pub returns-clause-only_fault : goal.returns-clause-only_fault
returns-clause-only_fault c =
    let e = c.canonical_bytes.ensures in
    judged-fault (λ v. v.items) _ _
    (module-judged (λ v. v.items) _ _ _ c.in_ok-module.ensures.ok e.keeps e.canonical e.err)

pub returns-clause-shortest : goal.returns-clause-shortest
returns-clause-shortest c = λ e.
    none-longer (λ v. v.items) _ _ _ (denotes-binary _ _ e c.in_ok-module.ensures.ok) c.canonical_bytes.ensures.shortest
