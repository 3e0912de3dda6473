use Rattle.std.proofs.Common.{arith}
use Rattle.wc_cli.proofs.turns.higher.Goals as goal

pub returns-then-a-b : goal.returns-then-a-b
returns-then-a-b c = omega arith

pub returns-else-a-b : goal.returns-else-a-b
returns-else-a-b c = omega arith
