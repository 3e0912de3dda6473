use Rattle.wc_syntax.proofs.Stacks.Exactness.{answers-kept, answers-refusal, only-kept, only-fault}
use Rattle.wc_syntax.proofs.kept.kept_tokens.Goals as goal

pub returns-clause-kept : goal.returns-clause-kept
returns-clause-kept c = answers-kept c.args.limit c.args.kinds.now c.kept_or_refusal.result c.kept_or_refusal.ensures

pub returns-clause-refusal : goal.returns-clause-refusal
returns-clause-refusal c = answers-refusal c.args.limit c.args.kinds.now c.kept_or_refusal.result
    c.kept_or_refusal.ensures

pub returns-clause-only : goal.returns-clause-only
returns-clause-only c = only-kept c.args.limit c.args.kinds.now c.kept_or_refusal.result c.kept_or_refusal.ensures

pub returns-clause-only_fault : goal.returns-clause-only_fault
returns-clause-only_fault c = only-fault c.args.limit c.args.kinds.now c.kept_or_refusal.result
    c.kept_or_refusal.ensures
