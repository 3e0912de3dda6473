use Rattle.wc_binary.specs.Writing.Values.{FitsImport}
use Rattle.wc_binary.proofs.spelling.Encoding.{next-unmeasured}
use Rattle.wc_binary.proofs.encoder.imports.imports_size.Goals as goal

pub returns-in_err-size : goal.returns-in_err-size
returns-in_err-size c =
    let left = rw c.in-Some.ensures.steps at c.loop-import.invariant.left in
    rw c.from_residual-in_err-size.ensures
    (next-unmeasured FitsImport c.args.imports.now c.loop-import.yielded c.in-Some.import c.next.new.self left
    c.in_err-size.ensures)
