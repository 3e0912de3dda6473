use Rattle.wc_binary.specs.Writing.Values.{FitsExport}
use Rattle.wc_binary.proofs.spelling.Encoding.{next-unmeasured}
use Rattle.wc_binary.proofs.encoder.exports.exports_size.Goals as goal

pub returns-in_err-size : goal.returns-in_err-size
returns-in_err-size c =
    let left = rw c.in-Some.ensures.steps at c.loop-export.invariant.left in
    rw c.from_residual-in_err-size.ensures
    (next-unmeasured FitsExport c.args.exports.now c.loop-export.yielded c.in-Some.export c.next.new.self left
    c.in_err-size.ensures)
