use Rattle.std.proofs.lemmas.Result.{err_from_is_err_and}
use Rattle.wc_binary.specs.Standard.Values.{u32}
use Rattle.wc_binary.specs.Standard.Instructions.{expr}
use Rattle.wc_binary.specs.Standard.Contents.{data_segment}
use Rattle.wc_binary.proofs.reading.Behind.{behind-fails, first-of}
use Rattle.wc_binary.proofs.decoder.contents.DataFromSource.read.Goals as goal

pub returns-in_err-offset : goal.returns-in_err-offset
unfolding data_segment
returns-in_err-offset g c =
    let p = err_from_is_err_and c.from_residual-in_err-offset.result c.from_residual-in_err-offset.ensures.1 in
    rw (p.1, p.2)
    (behind-fails u32 _ _ _ _ c.in_ok-memory.memory c.in_ok-memory.ensures c.in_err-offset.field-0.0
    (first-of _ _ _ _ _ c.in_err-offset.ensures))

pub returns-in_err-bytes : goal.returns-in_err-bytes
unfolding data_segment
returns-in_err-bytes g c =
    let p = err_from_is_err_and c.from_residual-in_err-bytes.result c.from_residual-in_err-bytes.ensures.1 in
    rw (p.1, p.2)
    (behind-fails u32 _ _ _ _ c.in_ok-memory.memory c.in_ok-memory.ensures c.in_err-bytes.field-0.0
    (behind-fails expr _ _ _ _ c.in_ok-offset.offset c.in_ok-offset.ensures c.in_err-bytes.field-0.0
    (first-of _ _ _ _ _ c.in_err-bytes.ensures)))
