use Rattle.wc_tokens.proofs.Lexing.LexLaws.{FirstFault-same}
use Rattle.wc_tokens.proofs.laws.one_fault.Goals as goal

pub returns : goal.returns
returns c = λ text at at' why why' a b. let s = FirstFault-same a b in (s.at_is, s.why_is)
