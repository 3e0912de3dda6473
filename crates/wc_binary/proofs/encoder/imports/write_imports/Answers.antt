use Rattle.std.proofs.Common.{[], ◌∷◌, length, append_assoc, refl, ◌∙◌}
use Rattle.std.proofs.lemmas.List.{append-nil}
use Rattle.std.proofs.lemmas.Result.{err_from_is_err_and}
use Rattle.wc_leb128.specs.Writing.Bytes.{unsigned_bytes}
use Rattle.wc_body.specs.Standard.ValueBytes.{vector_bytes}
use Rattle.wc_binary.specs.Writing.Values.{import_bytes, FitsImport}
use Rattle.wc_binary.proofs.spelling.Encoding.{all-left, all-more, next-put, next-fails}
use Rattle.wc_binary.proofs.encoder.imports.write_imports.Goals as goal

pub loop-import-init : goal.loop-import-init
loop-import-init c = record {
  left = c.into_iter-import-iterator.ensures.into_iter_gives ∙ c.iter-import-items.ensures;
  written = rw (c.in_ok-write_length.ensures.1, c.len.ensures, append-nil) refl;
  fits = tt;
}

pub loop-import-preserved : goal.loop-import-preserved
loop-import-preserved c =
    let before = c.loop-import.yielded in
    let w = c.in_ok-write.ensures in
    record {
      left = append_assoc before (c.in-Some.import ∷ []) c.next.new.self
          ∙ rw c.in-Some.ensures.steps at c.loop-import.invariant.left;
      written = next-put import_bytes before c.in-Some.import c.args.out.now.items c.loop-import.out.items
          c.write.new.out.items (unsigned_bytes (length c.args.imports.now)) c.loop-import.invariant.written w.1;
      fits = all-more FitsImport before c.in-Some.import c.loop-import.invariant.fits w.0;
    }

pub returns-in_err-write : goal.returns-in_err-write
returns-in_err-write c =
    let p = err_from_is_err_and c.from_residual-in_err-write.result c.from_residual-in_err-write.ensures.1 in
    let left = rw c.in-Some.ensures.steps at c.loop-import.invariant.left in
    rw (p.1, p.2)
    (next-fails FitsImport c.args.imports.now c.loop-import.yielded c.in-Some.import c.next.new.self left
    c.loop-import.out.items c.write.new.out.items (import_bytes c.in-Some.import) c.args.out.now.items
    c.write.new.out.items
    (vector_bytes import_bytes c.args.imports.now) c.in_err-write.field-0.0 c.in_err-write.ensures)

pub returns : goal.returns
returns c =
    let i = c.loop-import.invariant in
    let all = all-left c.loop-import.yielded c.loop-import.import-iterator c.args.imports.now i.left
    c.in-None.ensures.steps.0 in
    ((rw c.len.ensures at c.in_ok-write_length.ensures.0, rw all at i.fits), rw all at i.written)
