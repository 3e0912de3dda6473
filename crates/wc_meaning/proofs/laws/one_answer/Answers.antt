use Rattle.wc_meaning.proofs.Single.{one-module, one-fault, never-both, always-one}
use Rattle.wc_meaning.proofs.laws.one_answer.Goals as goal

pub returns-clause-one_module : goal.returns-clause-one_module
returns-clause-one_module c = one-module

pub returns-clause-one_fault : goal.returns-clause-one_fault
returns-clause-one_fault c = one-fault

pub returns-clause-never_both : goal.returns-clause-never_both
returns-clause-never_both c = never-both

pub returns-clause-always : goal.returns-clause-always
returns-clause-always c = always-one
