use Rattle.std.proofs.Common.{length}
use Rattle.wc_print.specs.Standard.Going.{LeavesEscaped}
use Rattle.wc_print.proofs.strings.put_string.Given as goal

abbrev pub invariant-loop-rest : goal.invariant-loop-rest
invariant-loop-rest g l = LeavesEscaped g.S.Sink.Has l.rest l.initial.rest l.out l.initial.out

abbrev pub decreases-loop-rest : goal.decreases-loop-rest
decreases-loop-rest g l = length l.rest
