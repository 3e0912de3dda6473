-- Instructions written out piece by piece.
use Rattle.std.specs.Prelude.{List, [], ◌++◌}
use Rattle.wc_body.specs.Standard.Nested.{Region, Code, empty, op, region, choice}

-- what is written for each part, knowing what encloses it
pub record Pieces (S P H X : Type 0) : Type 0 where
  pub enter : S → H → S
  pub plain : S → P → List X
  pub begin : S → Region → H → List X
  pub begin_if : S → H → List X
  pub otherwise : S → List X
  pub close : S → List X

module _ {S P H X : Type 0} (w : Pieces S P H X) where
  -- the else part of an if, where this is written of its instructions: nothing where it has none
  abbrev pub else_piece : S → Code P H → List X → List X
  else_piece s empty rest = rest
  else_piece s (op p next) rest = w.otherwise s ++ rest
  else_piece s (region r h inside next) rest = w.otherwise s ++ rest
  else_piece s (choice h first second next) rest = w.otherwise s ++ rest

  -- the pieces of the instructions, one after the other
  abbrev pub emitted : S → Code P H → List X
  emitted s empty = []
  emitted s (op p next) = w.plain s p ++ emitted s next
  emitted s (region r h inside next) =
      w.begin s r h ++ (emitted (w.enter s h) inside ++ (w.close s ++ emitted s next))
  emitted s (choice h first second next) =
      w.begin_if s h
      ++ (emitted (w.enter s h) first
      ++ (else_piece s second (emitted (w.enter s h) second) ++ (w.close s ++ emitted s next)))
