use Rattle.wc_tokens.specs.Reading.Heads.{IsFrontOrEnd}
use Rattle.wc_tokens.proofs.Lexing.FrontLaws.{left}
use Rattle.wc_tokens.proofs.next.next_of.Given as goal

abbrev pub invariant-loop-next : goal.invariant-loop-next
invariant-loop-next l = IsFrontOrEnd l.text l.next

abbrev pub decreases-loop-next : goal.decreases-loop-next
decreases-loop-next l = left l.next
