use Rattle.wc_resolve.proofs.Answering.{only-module, only-fault}
use Rattle.wc_resolve.proofs.resolving.resolve.Goals as goal

pub returns-clause-only : goal.returns-clause-only
returns-clause-only c = only-module _ _ c.resolve_fields.ensures.module c.resolve_fields.ensures.fault

pub returns-clause-only_fault : goal.returns-clause-only_fault
returns-clause-only_fault c = only-fault _ _ c.resolve_fields.ensures.module c.resolve_fields.ensures.fault
