use Rattle.std.proofs.Common.{rules}
use Rattle.wc_canon.proofs.fault.RefusalFromTextFault.from.Goals as goal

-- written out, so that a wrong body is refused by this search alone
pub returns-in-Lex : goal.returns-in-Lex
returns-in-Lex c = search rules
