use Rattle.std.proofs.Common.{[], ◌∷◌, length, append_assoc, refl, ◌∙◌}
use Rattle.std.proofs.lemmas.List.{append-nil}
use Rattle.std.proofs.lemmas.Result.{err_from_is_err_and}
use Rattle.wc_leb128.specs.Writing.Bytes.{unsigned_bytes}
use Rattle.wc_body.specs.Standard.ValueBytes.{vector_bytes}
use Rattle.wc_binary.specs.Writing.Values.{export_bytes, FitsExport}
use Rattle.wc_binary.proofs.spelling.Encoding.{all-left, all-more, next-put, next-fails}
use Rattle.wc_binary.proofs.encoder.exports.write_exports.Goals as goal

pub loop-export-init : goal.loop-export-init
loop-export-init c = record {
  left = c.into_iter-export-iterator.ensures.into_iter_gives ∙ c.iter-export-items.ensures;
  written = rw (c.in_ok-write_length.ensures.1, c.len.ensures, append-nil) refl;
  fits = tt;
}

pub loop-export-preserved : goal.loop-export-preserved
loop-export-preserved c =
    let before = c.loop-export.yielded in
    let w = c.in_ok-write.ensures in
    record {
      left = append_assoc before (c.in-Some.export ∷ []) c.next.new.self
          ∙ rw c.in-Some.ensures.steps at c.loop-export.invariant.left;
      written = next-put export_bytes before c.in-Some.export c.args.out.now.items c.loop-export.out.items
          c.write.new.out.items (unsigned_bytes (length c.args.exports.now)) c.loop-export.invariant.written w.1;
      fits = all-more FitsExport before c.in-Some.export c.loop-export.invariant.fits w.0;
    }

pub returns-in_err-write : goal.returns-in_err-write
returns-in_err-write c =
    let p = err_from_is_err_and c.from_residual-in_err-write.result c.from_residual-in_err-write.ensures.1 in
    let left = rw c.in-Some.ensures.steps at c.loop-export.invariant.left in
    rw (p.1, p.2)
    (next-fails FitsExport c.args.exports.now c.loop-export.yielded c.in-Some.export c.next.new.self left
    c.loop-export.out.items c.write.new.out.items (export_bytes c.in-Some.export) c.args.out.now.items
    c.write.new.out.items
    (vector_bytes export_bytes c.args.exports.now) c.in_err-write.field-0.0 c.in_err-write.ensures)

pub returns : goal.returns
returns c =
    let i = c.loop-export.invariant in
    let all = all-left c.loop-export.yielded c.loop-export.export-iterator c.args.exports.now i.left
    c.in-None.ensures.steps.0 in
    ((rw c.len.ensures at c.in_ok-write_length.ensures.0, rw all at i.fits), rw all at i.written)
