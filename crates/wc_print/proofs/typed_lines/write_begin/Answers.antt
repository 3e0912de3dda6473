use Rattle.wc_print.specs.Standard.Printed.{word}
use Rattle.wc_print.specs.Standard.Lines.{head_word}
use Rattle.wc_print.proofs.Reading.Naming.{head-word}
use Rattle.wc_print.proofs.Writing.Putting.{chain}
use Rattle.wc_print.proofs.Writing.Paging.{line-put}
use Rattle.wc_print.proofs.typed_lines.write_begin.Goals as goal

pub returns-clause-put : goal.returns-clause-put
returns-clause-put c =
    let kind = c.args.kind in
    chain (line-put (word (head_word kind)) (head-word kind) c.head_line.ensures.line c.write_row-end.ensures.bytes)
    c.write_block_type.ensures.put
