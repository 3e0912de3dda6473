use Rattle.std.proofs.lemmas.Result.{err_from_is_err_and}
use Rattle.wc_binary.specs.Standard.Values.{u32}
use Rattle.wc_binary.specs.Standard.Instructions.{expr}
use Rattle.wc_binary.specs.Standard.Contents.{elem_segment}
use Rattle.wc_binary.proofs.reading.Behind.{behind-fails, first-of}
use Rattle.wc_binary.proofs.decoder.contents.ElemFromSource.read.Goals as goal

pub returns-in_err-offset : goal.returns-in_err-offset
unfolding elem_segment
returns-in_err-offset g c =
    let p = err_from_is_err_and c.from_residual-in_err-offset.result c.from_residual-in_err-offset.ensures.1 in
    rw (p.1, p.2)
    (behind-fails u32 _ _ _ _ c.in_ok-table.table c.in_ok-table.ensures c.in_err-offset.field-0.0
    (first-of _ _ _ _ _ c.in_err-offset.ensures))

pub returns-in_err-funcs : goal.returns-in_err-funcs
unfolding elem_segment
returns-in_err-funcs g c =
    let p = err_from_is_err_and c.from_residual-in_err-funcs.result c.from_residual-in_err-funcs.ensures.1 in
    rw (p.1, p.2)
    (behind-fails u32 _ _ _ _ c.in_ok-table.table c.in_ok-table.ensures c.in_err-funcs.field-0.0
    (behind-fails expr _ _ _ _ c.in_ok-offset.offset c.in_ok-offset.ensures c.in_err-funcs.field-0.0
    (first-of _ _ _ _ _ c.in_err-funcs.ensures)))
