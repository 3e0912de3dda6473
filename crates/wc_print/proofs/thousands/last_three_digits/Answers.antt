use Rattle.wc_print.proofs.Tables.DigitTables.{three-digits}
use Rattle.wc_print.proofs.thousands.last_three_digits.Goals as goal

pub returns : goal.returns
returns c = three-digits c.args.n c.requires
