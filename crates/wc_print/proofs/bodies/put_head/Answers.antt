use Rattle.wc_print.specs.Standard.Printed.{word}
use Rattle.wc_print.specs.Standard.Lines.{head_word}
use Rattle.wc_print.specs.Writing.Places.{item_at}
use Rattle.wc_print.proofs.Reading.Naming.{head-word}
use Rattle.wc_print.proofs.Writing.Going.{chain}
use Rattle.wc_print.proofs.Writing.Instructions.{head-items}
use Rattle.wc_print.proofs.bodies.put_head.Goals as goal

pub returns : goal.returns
returns g c =
    let kind = c.args.kind in
    rw (head-items (item_at c.args.place) kind c.args.block_type)
    (chain (c.put_at.ensures (word (head_word kind)) c.head_line.ensures.line (head-word kind))
    c.put_block_type.ensures)
