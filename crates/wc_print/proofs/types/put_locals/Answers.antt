use Rattle.std.proofs.Common.{refl, codes}
use Rattle.wc_tokens.specs.Standard.Lexemes.{is_idchar}
use Rattle.wc_print.proofs.Writing.Values.{values-put, not-zero}
use Rattle.wc_print.proofs.types.put_locals.Goals as goal

pub returns : goal.returns
unfolding is_idchar
returns g c =
    values-put (codes "local") c.args.locals.now (not-zero _ c.if-len-eq0.false c.len.ensures.count) refl refl
    c.put.ensures (rw c.groups.ensures.written_out at c.put_groups.ensures)
    c.put-2.ensures
