use Rattle.std.proofs.Common.{refl}
use Rattle.std.proofs.lemmas.Result.{err_from_is_err_and}
use Rattle.wc_binary.proofs.spelling.Encoding.{module-fails, module-written}
use Rattle.wc_binary.proofs.encoder.encode_in.Goals as goal

pub returns-in_err-write_sections : goal.returns-in_err-write_sections
returns-in_err-write_sections c =
    let p = err_from_is_err_and c.from_residual-in_err-write_sections.result
    c.from_residual-in_err-write_sections.ensures.1 in
    rw (p.1, p.2)
    (module-fails c.args.m.now c.extend_from_slice.new.self.items c.write_sections.new.out.items
    c.in_err-write_sections.field-0.0 c.in_err-write_sections.ensures)

pub returns : goal.returns
returns c =
    let s = c.in_ok-write_sections.ensures in
    let front = c.in_ok-extend_from_slice.ensures.items in
    let start = c.clear.ensures.items in
    module-written c.args.m.now s.0 _ (rw (s.1, front, start) refl)
