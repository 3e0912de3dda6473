use Rattle.std.proofs.Common.{ap, refl, inl, ◌∙◌}
use Rattle.wc_ast.specs.declared.module.Module.{Module}
use Rattle.wc_print.specs.Standard.Layout.{layout}
use Rattle.wc_print.specs.Standard.Printed.{text}
use Rattle.wc_canon.proofs.Laws.{one-meaning, meant-or-fault}
use Rattle.wc_canon.proofs.Judged.{match-error, never-meant, that-fault, has-text}
use Rattle.wc_canon.proofs.Again.{again}
use Rattle.wc_canon.proofs.printing.to_text.Goals as goal

pub returns-in_err-module-clause-only : goal.returns-in_err-module-clause-only
returns-in_err-module-clause-only c = λ m p.
    match-error _ _ _ _ c.from_residual.ensures.1 (never-meant _ m _ c.in_err-module.ensures.err p)

pub returns-in_err-module-clause-only_fault : goal.returns-in_err-module-clause-only_fault
returns-in_err-module-clause-only_fault c = λ g p.
    match-error _ _ _ _ c.from_residual.ensures.1 (that-fault _ _ g c.in_err-module.ensures.err p)

pub returns-clause-ok : goal.returns-clause-ok
returns-clause-ok c = has-text _ _ _ c.in_ok-module.ensures.ok c.in_ok-text_of.ensures.layout

pub returns-clause-only : goal.returns-clause-only
returns-clause-only c = λ m p.
    c.in_ok-text_of.ensures.layout
    ∙ ap (λ (o : Module). text (layout o)) (one-meaning _ _ m c.in_ok-module.ensures.ok p)

pub returns-clause-only_fault : goal.returns-clause-only_fault
returns-clause-only_fault c = λ g p. meant-or-fault _ _ g c.in_ok-module.ensures.ok p

pub returns-clause-again : goal.returns-clause-again
returns-clause-again c = λ short b a.
    again _ _ b (has-text _ _ _ c.in_ok-module.ensures.ok c.in_ok-text_of.ensures.layout) short a

pub returns-in_err-text_of-clause-only : goal.returns-in_err-text_of-clause-only
returns-in_err-text_of-clause-only c = λ m p. match-error _ _ _ _ c.from_residual-in_err-text_of.ensures.1 refl

pub returns-in_err-text_of-clause-only_fault : goal.returns-in_err-text_of-clause-only_fault
returns-in_err-text_of-clause-only_fault c = λ g p.
    match-error _ _ _ _ c.from_residual-in_err-text_of.ensures.1 (inl refl)
