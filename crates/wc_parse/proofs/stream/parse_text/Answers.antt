use Rattle.wc_parse.proofs.Saying.Wholes.{only-fields, only-refusal}
use Rattle.wc_parse.proofs.stream.parse_text.Goals as goal

pub returns-clause-only : goal.returns-clause-only
returns-clause-only c =
    only-fields c.args.text.now c.fields_or_refusal.result c.fields_or_refusal.ensures.ok
    c.fields_or_refusal.ensures.fault

pub returns-clause-only_fault : goal.returns-clause-only_fault
returns-clause-only_fault c =
    only-refusal c.args.text.now c.fields_or_refusal.result c.fields_or_refusal.ensures.ok
    c.fields_or_refusal.ensures.fault
