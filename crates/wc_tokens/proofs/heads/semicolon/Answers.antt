use Rattle.wc_tokens.proofs.Decided.HeadLaws.{Gap-line, Stuck-semicolon}
use Rattle.wc_tokens.proofs.heads.semicolon.Goals as goal

pub returns-in-Some : goal.returns-in-Some
returns-in-Some c =
    Gap-line c.args.text.now c.args.rest.now c.in-Some.line.now c.after_line.result.now c.requires c.in-Some.ensures
    c.after_line.ensures

pub returns-in-None : goal.returns-in-None
returns-in-None c = Stuck-semicolon c.args.text.now c.args.rest.now c.requires c.in-None.ensures
