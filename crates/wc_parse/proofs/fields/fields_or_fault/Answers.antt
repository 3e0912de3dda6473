use Rattle.wc_parse.proofs.Saying.Answering.{answers-whole}
use Rattle.wc_parse.proofs.fields.fields_or_fault.Goals as goal

pub ended-requires : goal.ended-requires
ended-requires c = (c.args.tokens.now, c.in_ok-count.ensures.ok)

pub returns : goal.returns
returns c =
    answers-whole c.args.tokens.now c.in_ok-count.count _ _ c.ended.result c.in_ok-count.ensures.ok c.ended.ensures.ok
    c.ended.ensures.fault
