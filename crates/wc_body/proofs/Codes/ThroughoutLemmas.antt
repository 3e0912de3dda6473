-- What holds of each mark holds of each part, and the other way.
use Rattle.std.proofs.Common.{List, [], ◌∷◌}
use Rattle.wc_body.specs.Standard.Nested.{Code, empty, op, region, choice, Mark, plain, begin, begin_if, otherwise}
use Rattle.wc_body.specs.Standard.Nested.{close, else_mark, flat, flatten}
use Rattle.wc_body.specs.Standard.Throughout.{Throughout}

module _ {P H : Type 0} (F : P → Type 0) (G : H → Type 0) where
  -- what holds of one mark
  abbrev pub HoldsAt : Mark P H → Type 0
  HoldsAt (plain p) = F p
  HoldsAt (begin r h) = G h
  HoldsAt (begin_if h) = G h
  HoldsAt otherwise = Unit {0}
  HoldsAt close = Unit {0}

  -- the same of each of these marks
  abbrev pub AllMarks : List (Mark P H) → Type 0
  AllMarks [] = Unit {0}
  AllMarks (m ∷ ms) = HoldsAt m × AllMarks ms

module _ {P H : Type 0} (F : P → Type 0) (G : H → Type 0) where
  -- the marks behind an else mark
  behind_else : (second : Code P H) (ms : List (Mark P H)) → AllMarks F G (else_mark second ms) → AllMarks F G ms
  behind_else empty ms all = all
  behind_else (op p next) ms all = all.1
  behind_else (region r h inside next) ms all = all.1
  behind_else (choice h one two next) ms all = all.1

  pub AllMarks-flat : (is : Code P H) (after : List (Mark P H)) → AllMarks F G (flat is after) → Throughout F G is
      × AllMarks F G after
  AllMarks-flat empty after all = (tt, all)
  AllMarks-flat (op p next) after all = let k = AllMarks-flat next after all.1 in ((all.0, k.0), k.1)
  AllMarks-flat (region r h inside next) after all =
      let i = AllMarks-flat inside (close ∷ flat next after) all.1 in
      let k = AllMarks-flat next after i.1.1 in
      ((all.0, i.0, k.0), k.1)
  AllMarks-flat (choice h first second next) after all =
      let i = AllMarks-flat first (else_mark second (flat second (close ∷ flat next after))) all.1 in
      let j = AllMarks-flat second (close ∷ flat next after) (behind_else second
      (flat second (close ∷ flat next after)) i.1) in
      let k = AllMarks-flat next after j.1.1 in
      ((all.0, i.0, j.0, k.0), k.1)

  -- of the marks of a body, so of its parts
  pub AllMarks-flatten : (is : Code P H) → AllMarks F G (flatten is) → Throughout F G is
  AllMarks-flatten is all = (AllMarks-flat is [] all).0
