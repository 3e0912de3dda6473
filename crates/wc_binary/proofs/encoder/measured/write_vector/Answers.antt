use Rattle.std.proofs.lemmas.Result.{err_from_is_err_and}
use Rattle.wc_body.specs.Standard.ValueBytes.{vector_bytes}
use Rattle.wc_binary.proofs.spelling.Encoding.{item-fails}
use Rattle.wc_binary.proofs.encoder.measured.write_vector.Goals as goal

pub returns-in_err-write : goal.returns-in_err-write
returns-in_err-write g c =
    let p = err_from_is_err_and c.from_residual-in_err-write.result c.from_residual-in_err-write.ensures.1 in
    rw (p.1, p.2)
    (item-fails g.M.Measured.Fits c.args.items.now c.loop-item.item-index c.item-item.result
    c.item-item.is c.loop-item-test.true
    c.loop-item.out.items c.write.new.out.items
    (g.M.Measured.bytes c.item-item.result) c.args.out.now.items c.write.new.out.items
    (vector_bytes g.M.Measured.bytes c.args.items.now)
    c.in_err-write.field-0.0 c.in_err-write.ensures)
