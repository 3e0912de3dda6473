use Rattle.wc_binary.proofs.spelling.code.Locals.{locals-counted}
use Rattle.wc_binary.proofs.encoder.locals.LocalsRefMeasured.size.Goals as goal

pub returns : goal.returns
returns c =
    let is = c.groups.ensures.written_out in
    let within = rw (← is) at c.groups.ensures.within in
    rw (← is) (locals-counted c.groups.result.now c.groups.ensures.grouped within c.vector_size.result
    c.vector_size.ensures)
