use Rattle.std.proofs.Common.{Ok, Err}
use Rattle.std.proofs.lemmas.Result.{err_from_is_err_and}
use Rattle.wc_binary.specs.Reading.Reading.{read}
use Rattle.wc_binary.specs.Standard.Values.{u32, vector, times}
use Rattle.wc_binary.specs.Standard.Instructions.{follows}
use Rattle.wc_binary.proofs.reading.Behind.{then-gives, behind-fails, first-of}
use Rattle.wc_binary.proofs.decoder.immediates.br_table.Goals as goal

pub returns-in_err-labels : goal.returns-in_err-labels
unfolding follows vector
returns-in_err-labels g c =
    let p = err_from_is_err_and c.from_residual-in_err-labels.result c.from_residual-in_err-labels.ensures.1 in
    rw (p.1, p.2) (first-of _ _ (λ x. read (vector u32) (g.S.Source.input c.args.source.now).place x) _ _
    (then-gives u32 (λ n. times n u32) _ _ _ c.in_ok-count.count c.in_ok-count.ensures (Err c.in_err-labels.field-0.0)
    c.in_err-labels.ensures.gives))

pub returns-in_err-default : goal.returns-in_err-default
unfolding follows vector
returns-in_err-default g c =
    let p = err_from_is_err_and c.from_residual-in_err-default.result c.from_residual-in_err-default.ensures.1 in
    rw (p.1, p.2) (behind-fails (vector u32) _ _ _ _ c.in_ok-labels.field-0
    (then-gives u32 (λ n. times n u32) _ _ _ c.in_ok-count.count c.in_ok-count.ensures (Ok c.in_ok-labels.field-0)
    c.in_ok-labels.ensures.gives) c.in_err-default.field-0.0 (first-of _ _ _ _ _ c.in_err-default.ensures))
