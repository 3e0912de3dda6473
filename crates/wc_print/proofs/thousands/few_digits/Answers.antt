use Rattle.wc_print.proofs.Tables.DigitTables.{few-digits, few-short}
use Rattle.wc_print.proofs.thousands.few_digits.Goals as goal

pub returns-clause-digits : goal.returns-clause-digits
returns-clause-digits c = few-digits c.args.n c.requires

pub returns-clause-few : goal.returns-clause-few
returns-clause-few c = few-short c.args.n c.requires
