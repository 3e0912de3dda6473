use Rattle.std.proofs.Common.{arith}
use Rattle.wc_print.proofs.Writing.Paging.{row-kept}
use Rattle.wc_print.proofs.pages.write_text.Goals as goal

pub returns-clause-bytes : goal.returns-clause-bytes
returns-clause-bytes c =
    row-kept c.args.page.now _ c.args.text.now c.args.at _ 16 (omega arith) (omega (arith, c.requires.short))
    c.copy_row.ensures
