use Rattle.std.proofs.lemmas.Result.{err_from_is_err_and}
use Rattle.wc_binary.specs.declared.fault.BinWhy.TheVariants.{WrongType}
use Rattle.wc_binary.specs.Standard.Phrase.{byte}
use Rattle.wc_binary.specs.Standard.Values.{only, vector}
use Rattle.wc_binary.specs.Standard.Types.{value_type, func_type}
use Rattle.wc_binary.proofs.reading.Behind.{behind-fails, first-of}
use Rattle.wc_binary.proofs.decoder.types.FuncTypeFromSource.read.Goals as goal

pub returns-in_err-params : goal.returns-in_err-params
unfolding func_type
returns-in_err-params g c =
    let p = err_from_is_err_and c.from_residual-in_err-params.result c.from_residual-in_err-params.ensures.1 in
    rw (p.1, p.2)
    (behind-fails (byte (only 0x60 WrongType)) _ _ _ _ tt c.in_ok-only.ensures c.in_err-params.field-0.0
    (first-of _ _ _ _ _ c.in_err-params.ensures))

pub returns-in_err-results : goal.returns-in_err-results
unfolding func_type
returns-in_err-results g c =
    let p = err_from_is_err_and c.from_residual-in_err-results.result c.from_residual-in_err-results.ensures.1 in
    rw (p.1, p.2)
    (behind-fails (byte (only 0x60 WrongType)) _ _ _ _ tt c.in_ok-only.ensures c.in_err-results.field-0.0
    (behind-fails (vector value_type) _ _ _ _ c.in_ok-params.params c.in_ok-params.ensures c.in_err-results.field-0.0
    (first-of _ _ _ _ _ c.in_err-results.ensures)))
