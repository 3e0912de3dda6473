use Rattle.wc_read_text.proofs.Stages.{only-module, only-fault}
use Rattle.wc_read_text.proofs.reading.read.Goals as goal

pub returns-clause-only : goal.returns-clause-only
returns-clause-only c =
    only-module _ _ c.module_or_fault.ensures.ok c.module_or_fault.ensures.fault

pub returns-clause-only_fault : goal.returns-clause-only_fault
returns-clause-only_fault c =
    only-fault _ _ c.module_or_fault.ensures.ok c.module_or_fault.ensures.fault
