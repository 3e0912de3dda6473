use Rattle.wc_leb128.proofs.Words.Ends.{counted-to-end, none-ends}
use Rattle.wc_leb128.proofs.eight.count_to_end.Goals as goal

pub returns-clause-some : goal.returns-clause-some
returns-clause-some c = counted-to-end c.args.word c.if-ends-eq0.false

pub returns-then-ends-eq0-clause-none : goal.returns-then-ends-eq0-clause-none
returns-then-ends-eq0-clause-none c = λ bytes n h e none. none-ends c.args.word c.if-ends-eq0.true bytes n h e
