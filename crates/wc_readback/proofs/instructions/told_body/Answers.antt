use Rattle.wc_readback.proofs.InstructionLemmas.Finished.{told-body}
use Rattle.wc_readback.proofs.instructions.told_body.Goals as goal

pub returns : goal.returns
returns c = told-body
