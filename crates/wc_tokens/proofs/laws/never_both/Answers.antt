use Rattle.wc_tokens.proofs.Lexing.LexLaws.{Lexes-FirstFault}
use Rattle.wc_tokens.proofs.laws.never_both.Goals as goal

pub returns : goal.returns
returns c = λ text ts at why a b. Lexes-FirstFault a b
