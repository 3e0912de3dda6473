-- Instructions that are being built: which blocks, loops and ifs are open, and what each of them has so far.
use Rattle.std.specs.Prelude.{◌++◌, ℕ, ◌+◌, ◌≡◌, ◌≤◌, max, Bool, true, false, cond, List, [], ◌∷◌, length}
use Rattle.wc_body.specs.Standard.Nested.{Region, Code, empty, op, region, choice, Mark, plain, begin, begin_if}
use Rattle.wc_body.specs.Standard.Nested.{otherwise, close}
use Rattle.wc_body.specs.Standard.Nested.{◌⧺◌, flat, nesting, nesting_limit}

-- one that is open: what stood before it and its head, and for an if in its else part the first part
pub data Frame (P H : Type 0) : Type 0 where
  in_region : Code P H → Region → H → Frame P H
  in_then : Code P H → H → Frame P H
  in_else : Code P H → H → Code P H → Frame P H

-- those that are open, innermost first, and the innermost instructions so far
pub record Draft (P H : Type 0) : Type 0 where
  pub around : List (Frame P H)
  pub last : Code P H

-- a draft with these parts
abbrev pub draft : {P H : Type 0} → List (Frame P H) → Code P H → Draft P H
draft around last = record { around = around; last = last }

-- nothing is open
abbrev pub whole : {P H : Type 0} → Code P H → Draft P H
whole code = draft [] code

-- the innermost one ends; where nothing is open nothing changes
abbrev pub closed : {P H : Type 0} → List (Frame P H) → Code P H → Draft P H
closed [] last = draft [] last
closed (in_region before r h ∷ around) last = draft around (before ⧺ region r h last empty)
closed (in_then before h ∷ around) last = draft around (before ⧺ choice h last empty empty)
closed (in_else before h first ∷ around) last = draft around (before ⧺ choice h first last empty)

-- the innermost one, an if in its first part, turns to its else part; else nothing changes
abbrev pub turned : {P H : Type 0} → List (Frame P H) → Code P H → Draft P H
turned [] last = draft [] last
turned (in_region before r h ∷ around) last = draft (in_region before r h ∷ around) last
turned (in_then before h ∷ around) last = draft (in_else before h last ∷ around) empty
turned (in_else before h first ∷ around) last = draft (in_else before h first ∷ around) last

-- the next mark; one that may not come changes nothing
abbrev pub step : {P H : Type 0} → Draft P H → Mark P H → Draft P H
step d (plain p) = draft d.around (d.last ⧺ op p empty)
step d (begin r h) = draft (in_region d.last r h ∷ d.around) empty
step d (begin_if h) = draft (in_then d.last h ∷ d.around) empty
step d otherwise = turned d.around d.last
step d close = closed d.around d.last

-- mark by mark
abbrev pub steps : {P H : Type 0} → Draft P H → List (Mark P H) → Draft P H
steps d [] = d
steps d (m ∷ ms) = steps (step d m) ms

-- what the marks build
abbrev pub built : {P H : Type 0} → List (Mark P H) → Draft P H
built marks = steps (whole empty) marks

-- the innermost open one is an if in its first part
abbrev pub in_first_part : {P H : Type 0} → List (Frame P H) → Bool
in_first_part [] = false
in_first_part (in_region before r h ∷ around) = false
in_first_part (in_then before h ∷ around) = true
in_first_part (in_else before h first ∷ around) = false

-- something is open
abbrev pub is_open : {P H : Type 0} → List (Frame P H) → Bool
is_open [] = false
is_open (frame ∷ around) = true

-- may the mark come next
abbrev pub may_come : {P H : Type 0} → Draft P H → Mark P H → Bool
may_come d (plain p) = true
may_come d (begin r h) = true
may_come d (begin_if h) = true
may_come d otherwise = in_first_part d.around
may_come d close = is_open d.around

-- does the mark open a block, a loop or an if
abbrev pub begins : {P H : Type 0} → Mark P H → Bool
begins (plain p) = false
begins (begin r h) = true
begins (begin_if h) = true
begins otherwise = false
begins close = false

-- the mark would open one more than may be open
abbrev pub IsTooDeep : {P H : Type 0} → Draft P H → Mark P H → Type 0
IsTooDeep d m = (begins m ≡ true) × (nesting_limit ≤ length d.around)

-- the marks of what is open, and then these
abbrev pub open_marks : {P H : Type 0} → List (Frame P H) → List (Mark P H) → List (Mark P H)
open_marks [] after = after
open_marks (in_region before r h ∷ around) after = open_marks around (flat before (begin r h ∷ after))
open_marks (in_then before h ∷ around) after = open_marks around (flat before (begin_if h ∷ after))
open_marks (in_else before h first ∷ around) after =
    open_marks around (flat before (begin_if h ∷ flat first (otherwise ∷ after)))

-- the marks so far, and then these
abbrev pub upto : {P H : Type 0} → Draft P H → List (Mark P H) → List (Mark P H)
upto d after = open_marks d.around (flat d.last after)

-- how many are open at once at most, once all are closed, where n are within the innermost
abbrev pub reach : {P H : Type 0} → List (Frame P H) → ℕ → ℕ
reach [] n = n
reach (in_region before r h ∷ around) n = reach around (max (nesting before) (n + 1))
reach (in_then before h ∷ around) n = reach around (max (nesting before) (n + 1))
reach (in_else before h first ∷ around) n = reach around (max (nesting before) (max (nesting first) n + 1))

-- is it the mark of an else part
abbrev pub is_otherwise : {P H : Type 0} → Mark P H → Bool
is_otherwise (plain p) = false
is_otherwise (begin r h) = false
is_otherwise (begin_if h) = false
is_otherwise otherwise = true
is_otherwise close = false

-- the marks with an end mark behind them; an else mark that stands last gives way to it
abbrev pub ended : {P H : Type 0} → List (Mark P H) → List (Mark P H)
ended [] = close ∷ []
ended (m ∷ []) = cond (is_otherwise m) (close ∷ []) (m ∷ close ∷ [])
ended (m ∷ n ∷ ms) = m ∷ ended (n ∷ ms)

-- the marks with one more, as they are kept
abbrev pub kept_with : {P H : Type 0} → List (Mark P H) → Mark P H → List (Mark P H)
kept_with ms (plain p) = ms ++ plain p ∷ []
kept_with ms (begin r h) = ms ++ begin r h ∷ []
kept_with ms (begin_if h) = ms ++ begin_if h ∷ []
kept_with ms otherwise = ms ++ otherwise ∷ []
kept_with ms close = ended ms

-- the marks so far
abbrev pub so_far : {P H : Type 0} → Draft P H → List (Mark P H)
so_far d = upto d []
