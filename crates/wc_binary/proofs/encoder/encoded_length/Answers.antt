use Rattle.wc_binary.proofs.spelling.Measuring.{module-measured, module-unmeasured}
use Rattle.wc_binary.proofs.encoder.encoded_length.Goals as goal

pub returns-in_err-sections : goal.returns-in_err-sections
returns-in_err-sections c = rw c.from_residual.ensures (module-unmeasured c.args.m.now c.in_err-sections.ensures)

pub returns : goal.returns
returns c = module-measured c.args.m.now c.in_ok-sections.sections c.in_ok-sections.ensures
