use Rattle.wc_tokens.proofs.Lexing.LexLaws.{Lexes-same}
use Rattle.wc_tokens.proofs.laws.one_list.Goals as goal

pub returns : goal.returns
returns c = Lexes-same
