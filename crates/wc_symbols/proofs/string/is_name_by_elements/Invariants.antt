use Rattle.std.proofs.Common.{◌≡◌, ℕ, List, ◌∷◌, ◌++◌, length}
use Rattle.wc_tokens.specs.Standard.Strings.{Elements}
use Rattle.wc_symbols.specs.Reading.Utf8.{Tracks}
use Rattle.wc_symbols.proofs.string.is_name_by_elements.Given as goal

-- behind the quote stand elements of the bytes that were read, and then what is left
abbrev pub invariant-loop-element : goal.invariant-loop-element
invariant-loop-element l =
    (read : List ℕ) × Tracks l.tail read × ((body : List ℕ) × (l.text ≡ 34 ∷ (body ++ l.rest)) × Elements body read)

abbrev pub decreases-loop-element : goal.decreases-loop-element
decreases-loop-element l = length l.rest
