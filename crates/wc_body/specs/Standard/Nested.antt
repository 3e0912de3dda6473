-- Instructions in order, each with those nested in it (Core 1.0, 2.4), and the same as one row of marks.
-- P is an instruction in which none is nested. H is what stands at the head of a block, a loop or an if.
use Rattle.std.specs.Prelude.{ℕ, ◌+◌, max, List, [], ◌∷◌}

-- how many blocks, loops and ifs may be open at once
abbrev pub nesting_limit : ℕ
nesting_limit = 20000

-- a block or a loop
pub data Region : Type 0 where
  block : Region
  loop : Region

-- instructions in order: none; or a first one, and last those after it. An if (choice) has two parts.
pub data Code (P H : Type 0) : Type 0 where
  empty : Code P H
  op : P → Code P H → Code P H
  region : Region → H → Code P H → Code P H → Code P H
  choice : H → Code P H → Code P H → Code P H → Code P H

-- a place in the row: an instruction, or where nested ones begin, turn to the else part, or end
pub data Mark (P H : Type 0) : Type 0 where
  plain : P → Mark P H
  begin : Region → H → Mark P H
  begin_if : H → Mark P H
  otherwise : Mark P H
  close : Mark P H

-- an else part has a mark only where it is not empty
abbrev pub else_mark : {P H : Type 0} → Code P H → List (Mark P H) → List (Mark P H)
else_mark empty after = after
else_mark (op p next) after = otherwise ∷ after
else_mark (region r h inside next) after = otherwise ∷ after
else_mark (choice h first second next) after = otherwise ∷ after

-- the marks of the instructions, and then these
abbrev pub flat : {P H : Type 0} → Code P H → List (Mark P H) → List (Mark P H)
flat empty after = after
flat (op p next) after = plain p ∷ flat next after
flat (region r h inside next) after = begin r h ∷ flat inside (close ∷ flat next after)
flat (choice h first second next) after =
    begin_if h ∷ flat first (else_mark second (flat second (close ∷ flat next after)))

-- the marks of the instructions
abbrev pub flatten : {P H : Type 0} → Code P H → List (Mark P H)
flatten code = flat code []

-- how many blocks, loops and ifs are open at once at most
abbrev pub nesting : {P H : Type 0} → Code P H → ℕ
nesting empty = 0
nesting (op p next) = nesting next
nesting (region r h inside next) = max (nesting inside + 1) (nesting next)
nesting (choice h first second next) = max (max (nesting first) (nesting second) + 1) (nesting next)

infixr 5 ◌⧺◌
-- one after the other
abbrev pub ◌⧺◌ : {P H : Type 0} → Code P H → Code P H → Code P H
empty ⧺ more = more
(op p next) ⧺ more = op p (next ⧺ more)
(region r h inside next) ⧺ more = region r h inside (next ⧺ more)
(choice h first second next) ⧺ more = choice h first second (next ⧺ more)
