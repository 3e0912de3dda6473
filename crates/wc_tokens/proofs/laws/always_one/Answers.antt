use Rattle.wc_tokens.proofs.Lexing.LexLaws.{always-judged}
use Rattle.wc_tokens.proofs.laws.always_one.Goals as goal

pub returns : goal.returns
returns c = always-judged
