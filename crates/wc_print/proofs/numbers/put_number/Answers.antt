use Rattle.wc_print.proofs.Writing.Numbering.{digit-put}
use Rattle.wc_print.proofs.numbers.put_number.Goals as goal

pub returns-then-n-lt10 : goal.returns-then-n-lt10
returns-then-n-lt10 g c = digit-put _ c.if-n-lt10.true c.put.ensures
