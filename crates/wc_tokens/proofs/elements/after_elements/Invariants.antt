use Rattle.std.proofs.Common.{ℕ, List, length}
use Rattle.wc_tokens.specs.Standard.Strings.{EndsElements}
use Rattle.wc_tokens.proofs.elements.after_elements.Given as goal

-- elements stand before what is left: they end where those of the whole end
abbrev pub invariant-loop-element : goal.invariant-loop-element
invariant-loop-element l = (end : List ℕ) → EndsElements l.rest end → EndsElements l.text end

abbrev pub decreases-loop-element : goal.decreases-loop-element
decreases-loop-element l = length l.rest
