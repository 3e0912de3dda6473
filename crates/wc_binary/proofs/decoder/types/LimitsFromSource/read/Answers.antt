use Rattle.std.proofs.lemmas.Result.{err_from_is_err_and}
use Rattle.wc_binary.specs.Standard.Types.{flag, maximum, limits}
use Rattle.wc_binary.specs.Standard.Values.{u32}
use Rattle.wc_binary.specs.Reading.Reading.{read}
use Rattle.wc_binary.proofs.reading.Behind.{behind-fails, first-of}
use Rattle.wc_binary.proofs.decoder.types.LimitsFromSource.read.Goals as goal

pub returns-in_err-min : goal.returns-in_err-min
unfolding limits
returns-in_err-min g c =
    let p = err_from_is_err_and c.from_residual-in_err-min.result c.from_residual-in_err-min.ensures.1 in
    rw (p.1, p.2)
    (behind-fails flag _ _ _ _ c.in_ok-has_max.has_max c.in_ok-has_max.ensures c.in_err-min.field-0.0
    (first-of _ _ _ _ _ c.in_err-min.ensures))

pub returns-in_err-u32 : goal.returns-in_err-u32
unfolding limits
returns-in_err-u32 g c =
    let p = err_from_is_err_and c.from_residual-in_err-u32.result c.from_residual-in_err-u32.ensures.1 in
    let is = c.if-has_max.true in
    rw (p.1, p.2) (behind-fails flag _ _ _ _ c.in_ok-has_max.has_max c.in_ok-has_max.ensures c.in_err-u32.field-0.0
    (behind-fails u32 _ _ _ _ c.in_ok-min.min c.in_ok-min.ensures c.in_err-u32.field-0.0
    (first-of _ _ (λ x. read (maximum c.in_ok-has_max.has_max) (g.S.Source.input c.u32.new.source).place x) _ _
    (rw is (first-of _ _ _ _ _ c.in_err-u32.ensures)))))
