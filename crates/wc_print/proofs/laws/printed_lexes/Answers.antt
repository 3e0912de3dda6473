use Rattle.wc_print.proofs.Reading.Lexing.{Lexes-text}
use Rattle.wc_print.proofs.laws.printed_lexes.Goals as goal

pub returns : goal.returns
returns c = Lexes-text
