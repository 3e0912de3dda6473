use Rattle.wc_binary.proofs.spelling.code.Locals.{locals-written}
use Rattle.wc_binary.proofs.encoder.locals.LocalsRefMeasured.write.Goals as goal

pub returns : goal.returns
returns c =
    let is = c.groups.ensures.written_out in
    let within = rw (← is) at c.groups.ensures.within in
    rw (← is) (locals-written c.groups.result.now c.groups.ensures.grouped within c.args.out.now.items
    c.write_vector.new.out.items c.write_vector.result c.write_vector.ensures)
