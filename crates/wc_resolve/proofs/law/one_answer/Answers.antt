use Rattle.std.proofs.Common.{sym, ◌∙◌}
use Rattle.wc_resolve.specs.Standard.Denoted.{first_fault}
use Rattle.wc_resolve.proofs.Answering.{not-both, one-token, one-reason, always}
use Rattle.wc_resolve.proofs.law.one_answer.Goals as goal

pub returns-clause-one_module : goal.returns-clause-one_module
returns-clause-one_module c = λ all m n v w. v.same ∙ sym w.same

pub returns-clause-one_token : goal.returns-clause-one_token
returns-clause-one_token c = λ all s t why other. one-token (first_fault all) s t why other

pub returns-clause-one_reason : goal.returns-clause-one_reason
returns-clause-one_reason c = λ all s t why other. one-reason (first_fault all) s t why other

pub returns-clause-not_both : goal.returns-clause-not_both
returns-clause-not_both c = not-both

pub returns-clause-always : goal.returns-clause-always
returns-clause-always c = always
