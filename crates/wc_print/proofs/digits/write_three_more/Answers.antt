use Rattle.std.proofs.Common.{◌∙◌, ◌++◌, take, ap, arith}
use Rattle.wc_print.proofs.Writing.Paging.{row-kept, three-more}
use Rattle.wc_print.proofs.digits.write_three_more.Goals as goal

pub returns-clause-bytes : goal.returns-clause-bytes
returns-clause-bytes c = λ front ge written.
    three-more _ front _ c.args.n ge c.ranges.n.fits written
    (row-kept c.args.room.now _ c.last_three_digits.result.now c.args.at 3 4 (omega arith) (omega arith)
    c.copy_row.ensures
    ∙ ap (λ x. take c.args.at c.args.room.now ++ x) c.last_three_digits.ensures)
