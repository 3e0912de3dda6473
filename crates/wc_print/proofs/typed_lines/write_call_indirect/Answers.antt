use Rattle.std.proofs.Common.{codes, refl}
use Rattle.wc_tokens.specs.Standard.Lexemes.{is_idchar}
use Rattle.wc_print.specs.Standard.Printed.{word}
use Rattle.wc_print.proofs.Writing.Putting.{chain}
use Rattle.wc_print.proofs.Writing.Paging.{line-put}
use Rattle.wc_print.proofs.typed_lines.write_call_indirect.Goals as goal

pub returns-clause-put : goal.returns-clause-put
unfolding is_idchar
returns-clause-put c =
    chain (line-put (word (codes "call_indirect")) refl c.op_line.ensures.line c.write_row-end.ensures.bytes)
    c.write_type_use.ensures.put
