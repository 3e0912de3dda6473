use Rattle.wc_ops.specs.Standard.Opcodes.{index}
use Rattle.wc_print.specs.Standard.Printed.{word}
use Rattle.wc_print.proofs.Reading.Naming.{index-word}
use Rattle.wc_print.proofs.Writing.Putting.{chain}
use Rattle.wc_print.proofs.Writing.Paging.{line-put}
use Rattle.wc_print.proofs.integers.write_indexed.Goals as goal

pub returns-clause-put : goal.returns-clause-put
returns-clause-put c =
    let op = c.args.op in
    chain (line-put (word (index op).name) (index-word op) c.op_line.ensures.line c.write_row-end.ensures.bytes)
    c.write_number.ensures.put
