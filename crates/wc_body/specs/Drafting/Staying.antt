-- Which marks may come and stay: all that may come, but the end of an else part without instructions.
use Rattle.std.specs.Prelude.{◌≡◌, Bool, true, false, List, [], ◌∷◌}
use Rattle.wc_body.specs.Standard.Nested.{Code, empty, op, region, choice, Mark, plain, begin, begin_if, otherwise}
use Rattle.wc_body.specs.Standard.Nested.{close}
use Rattle.wc_body.specs.Standard.Draft.{Frame, in_region, in_then, in_else, Draft, in_first_part, step}

-- may the innermost one end, and not by an else part without instructions
abbrev pub may_end : {P H : Type 0} → List (Frame P H) → Code P H → Bool
may_end [] last = false
may_end (in_region before r h ∷ around) last = true
may_end (in_then before h ∷ around) last = true
may_end (in_else before h first ∷ around) empty = false
may_end (in_else before h first ∷ around) (op p next) = true
may_end (in_else before h first ∷ around) (region r g inside next) = true
may_end (in_else before h first ∷ around) (choice g one two next) = true

-- may the mark come next and stay
abbrev pub may_stay : {P H : Type 0} → Draft P H → Mark P H → Bool
may_stay d (plain p) = true
may_stay d (begin r h) = true
may_stay d (begin_if h) = true
may_stay d otherwise = in_first_part d.around
may_stay d close = may_end d.around d.last

-- each of the marks may come and stay, one after the other
abbrev pub AllMayStay : {P H : Type 0} → Draft P H → List (Mark P H) → Type 0
AllMayStay d [] = Unit {0}
AllMayStay d (m ∷ ms) = (may_stay d m ≡ true) × AllMayStay (step d m) ms
