use Rattle.std.proofs.Common.{[], ◌∷◌, length, append_assoc, refl, ◌∙◌}
use Rattle.std.proofs.lemmas.List.{append-nil}
use Rattle.std.proofs.lemmas.Result.{err_from_is_err_and}
use Rattle.wc_leb128.specs.Writing.Bytes.{unsigned_bytes}
use Rattle.wc_body.specs.Standard.ValueBytes.{vector_bytes}
use Rattle.wc_binary.specs.Writing.Contents.{code_bytes, FitsCode}
use Rattle.wc_binary.proofs.spelling.Encoding.{all-left, all-more, next-put, next-fails}
use Rattle.wc_binary.proofs.encoder.funcs.write_codes.Goals as goal

pub loop-code-init : goal.loop-code-init
loop-code-init c = record {
  left = c.into_iter-code-iterator.ensures.into_iter_gives ∙ c.iter-code-items.ensures;
  written = rw (c.in_ok-write_length.ensures.1, c.len.ensures, append-nil) refl;
  fits = tt;
}

pub loop-code-preserved : goal.loop-code-preserved
loop-code-preserved c =
    let before = c.loop-code.yielded in
    let w = c.in_ok-write.ensures in
    record {
      left = append_assoc before (c.in-Some.code ∷ []) c.next.new.self
          ∙ rw c.in-Some.ensures.steps at c.loop-code.invariant.left;
      written = next-put code_bytes before c.in-Some.code c.args.out.now.items c.loop-code.out.items
          c.write.new.out.items (unsigned_bytes (length c.args.codes.now)) c.loop-code.invariant.written w.1;
      fits = all-more FitsCode before c.in-Some.code c.loop-code.invariant.fits w.0;
    }

pub returns-in_err-write : goal.returns-in_err-write
returns-in_err-write c =
    let p = err_from_is_err_and c.from_residual-in_err-write.result c.from_residual-in_err-write.ensures.1 in
    let left = rw c.in-Some.ensures.steps at c.loop-code.invariant.left in
    rw (p.1, p.2)
    (next-fails FitsCode c.args.codes.now c.loop-code.yielded c.in-Some.code c.next.new.self left
    c.loop-code.out.items c.write.new.out.items (code_bytes c.in-Some.code) c.args.out.now.items c.write.new.out.items
    (vector_bytes code_bytes c.args.codes.now) c.in_err-write.field-0.0 c.in_err-write.ensures)

pub returns : goal.returns
returns c =
    let i = c.loop-code.invariant in
    let all = all-left c.loop-code.yielded c.loop-code.code-iterator c.args.codes.now i.left c.in-None.ensures.steps.0
    in
    ((rw c.len.ensures at c.in_ok-write_length.ensures.0, rw all at i.fits), rw all at i.written)
