-- What the letters of one more mark spell.
use Rattle.std.specs.Prelude.{List, [], ◌∷◌}
use Rattle.wc_body.specs.Standard.Nested.{Mark, plain, begin, begin_if, otherwise, close}
use Rattle.wc_body.specs.Standard.Draft.{Frame, in_region, in_then, in_else, Draft}
use Rattle.wc_body.specs.Standard.Grammar.{Grammar}

module _ {A P H : Type 0} (g : Grammar A P H) where
  -- the letters spell the else of the innermost one
  abbrev pub ElseIn : List A → List (Frame P H) → Type 0
  ElseIn a [] = ⊥
  ElseIn a (in_region before r h ∷ around) = ⊥
  ElseIn a (in_then before h ∷ around) = g.Else a h
  ElseIn a (in_else before h first ∷ around) = ⊥

  -- the letters spell the end of the innermost one
  abbrev pub EndIn : List A → List (Frame P H) → Type 0
  EndIn a [] = ⊥
  EndIn a (in_region before r h ∷ around) = g.End a h
  EndIn a (in_then before h ∷ around) = g.End a h
  EndIn a (in_else before h first ∷ around) = g.End a h

  -- the letters spell the mark, where it stands behind these unfinished instructions
  abbrev pub SpellsMark : List A → Draft P H → Mark P H → Type 0
  SpellsMark a d (plain p) = g.Plain a p
  SpellsMark a d (begin r h) = g.Begin a r h
  SpellsMark a d (begin_if h) = g.BeginIf a h
  SpellsMark a d otherwise = ElseIn a d.around
  SpellsMark a d close = EndIn a d.around
