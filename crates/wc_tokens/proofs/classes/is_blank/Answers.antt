use Rattle.std.proofs.Common.{refl, arith}
use Rattle.wc_tokens.specs.declared.classes.TheConstants.{CLASSES}
use Rattle.wc_tokens.specs.Standard.Gaps.{is_blank}
use Rattle.wc_tokens.proofs.Lexing.ClassLaws.{from_table}
use Rattle.wc_tokens.proofs.classes.is_blank.Goals as goal

pub returns : goal.returns
returns c = from_table CLASSES 98 is_blank c.args.byte (omega arith) refl
