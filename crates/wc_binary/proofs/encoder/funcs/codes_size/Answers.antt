use Rattle.wc_binary.specs.Writing.Contents.{FitsCode}
use Rattle.wc_binary.proofs.spelling.Encoding.{next-unmeasured}
use Rattle.wc_binary.proofs.encoder.funcs.codes_size.Goals as goal

pub returns-in_err-size : goal.returns-in_err-size
returns-in_err-size c =
    let left = rw c.in-Some.ensures.steps at c.loop-code.invariant.left in
    rw c.from_residual-in_err-size.ensures
    (next-unmeasured FitsCode c.args.codes.now c.loop-code.yielded c.in-Some.code c.next.new.self left
    c.in_err-size.ensures)
