use Rattle.std.proofs.Common.{◌∙◌, ◌++◌, take, ap, arith}
use Rattle.wc_print.proofs.Writing.Paging.{row-kept}
use Rattle.wc_print.proofs.digits.write_few_digits.Goals as goal

pub returns-clause-bytes : goal.returns-clause-bytes
returns-clause-bytes c =
    row-kept c.args.room.now _ c.few_digits-row.result.now c.args.at _ 4 (omega arith)
    (omega (arith, c.few_digits-row.ensures.few)) c.copy_row.ensures
    ∙ ap (λ x. take c.args.at c.args.room.now ++ x) c.few_digits-row.ensures.digits
