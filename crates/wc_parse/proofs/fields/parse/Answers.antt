use Rattle.wc_parse.proofs.Saying.Answering.{answers-fields, answers-fault, only-fields, only-fault}
use Rattle.wc_parse.proofs.fields.parse.Goals as goal

pub returns-clause-ok : goal.returns-clause-ok
returns-clause-ok c = answers-fields c.args.tokens.now c.fields_or_fault.result c.fields_or_fault.ensures

pub returns-clause-fault : goal.returns-clause-fault
returns-clause-fault c = answers-fault c.args.tokens.now c.fields_or_fault.result c.fields_or_fault.ensures

pub returns-clause-only : goal.returns-clause-only
returns-clause-only c = only-fields c.args.tokens.now c.fields_or_fault.result c.fields_or_fault.ensures

pub returns-clause-only_fault : goal.returns-clause-only_fault
returns-clause-only_fault c = only-fault c.args.tokens.now c.fields_or_fault.result c.fields_or_fault.ensures
