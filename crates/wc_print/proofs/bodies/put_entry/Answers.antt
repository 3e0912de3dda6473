use Rattle.std.proofs.Common.{refl, codes}
use Rattle.wc_tokens.specs.Standard.Lexemes.{is_idchar}
use Rattle.wc_print.specs.Standard.Printed.{word}
use Rattle.wc_print.proofs.bodies.put_entry.Goals as goal

pub returns-in-Else : goal.returns-in-Else
unfolding is_idchar
returns-in-Else g c = rw c.in-Else.is (c.put_at.ensures (word (codes "else")) refl refl)

pub returns-in-End : goal.returns-in-End
unfolding is_idchar
returns-in-End g c = rw c.in-End.is (c.put_at-in-End.ensures (word (codes "end")) refl refl)
