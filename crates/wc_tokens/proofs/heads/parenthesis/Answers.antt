use Rattle.wc_tokens.proofs.Decided.HeadLaws.{Gap-block, Stuck-block}
use Rattle.wc_tokens.proofs.heads.parenthesis.Goals as goal

pub returns-in-Some-after_comment : goal.returns-in-Some-after_comment
returns-in-Some-after_comment c =
    Gap-block c.args.text.now c.args.rest.now c.in-Some.inside.now c.in-Some-after_comment.after.now c.requires
    c.in-Some.ensures c.in-Some-after_comment.ensures

pub returns-in-None : goal.returns-in-None
returns-in-None c =
    Stuck-block c.args.text.now c.args.rest.now c.in-Some.inside.now c.requires c.in-Some.ensures c.in-None.ensures
