use Rattle.std.proofs.Common.{◌≡◌, ℕ, List, ◌∷◌, ◌++◌, length}
use Rattle.wc_tokens.specs.Standard.Strings.{Elements}
use Rattle.wc_tokens.proofs.strings.string_bytes.Given as goal

-- behind the quote stand elements of the bytes so far, and then what is left
abbrev pub invariant-loop-element : goal.invariant-loop-element
invariant-loop-element l = (body : List ℕ) × (l.token.text.now ≡ 34 ∷ (body ++ l.rest)) × Elements body l.bytes.items

abbrev pub decreases-loop-element : goal.decreases-loop-element
decreases-loop-element l = length l.rest
