use Rattle.std.proofs.Common.{refl, arith}
use Rattle.wc_tokens.specs.declared.classes.TheConstants.{CLASSES}
use Rattle.wc_tokens.specs.Standard.Lexemes.{is_idchar}
use Rattle.wc_tokens.proofs.Lexing.ClassLaws.{from_table}
use Rattle.wc_tokens.proofs.classes.is_idchar.Goals as goal

pub returns : goal.returns
unfolding is_idchar
returns c = from_table CLASSES 105 is_idchar c.args.byte (omega arith) refl
