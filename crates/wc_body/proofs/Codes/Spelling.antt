-- Letters that spell unfinished instructions, and then one more mark.
use Rattle.std.proofs.Common.{◌≢◌, List, [], ◌∷◌, ◌++◌, refl, sym, ap, ◌∙◌, append_assoc, inl, inr}
use Rattle.std.proofs.lemmas.List.{append-nil}
use Rattle.wc_body.specs.Standard.Nested.{Code, empty, op, region, choice, Mark, plain, begin, begin_if, otherwise}
use Rattle.wc_body.specs.Standard.Nested.{close, ◌⧺◌}
use Rattle.wc_body.specs.Standard.Draft.{Frame, in_region, in_then, in_else, Draft, draft, whole, step, closed, turned}
use Rattle.wc_body.specs.Standard.Grammar.{Grammar, Spells, SpellsDraft}
use Rattle.wc_body.proofs.Codes.SpelledMark.{ElseIn, EndIn, SpellsMark}

module _ {A P H : Type 0} (g : Grammar A P H) where
  pub Spells-append : (a b : List A) (is js : Code P H) → Spells g a is → Spells g b js → Spells g (a ++ b) (is ⧺ js)
  Spells-append a b empty js s t = rw s t
  Spells-append a b (op p next) js s t = (
    s.0,
    s.1 ++ b,
    ap (λ (x : List A). x ++ b) s.2
        ∙ simp append_assoc,
    s.3,
    Spells-append s.1 b next js s.4 t,
  )
  Spells-append a b (region r h inside next) js s t = (
    s.0,
    s.1,
    s.2,
    s.3 ++ b,
    ap (λ (x : List A). x ++ b) s.4
        ∙ simp append_assoc,
    s.5,
    s.6,
    s.7,
    Spells-append s.3 b next js s.8 t,
  )
  Spells-append a b (choice h first second next) js s t = (
    s.0,
    s.1,
    s.2,
    s.3,
    s.4 ++ b,
    ap (λ (x : List A). x ++ b) s.5
        ∙ simp append_assoc,
    s.6,
    s.7,
    s.8,
    s.9,
    Spells-append s.4 b next js s.10 t,
  )

  -- what a neat grammar asks where the innermost one ends
  abbrev pub NeatEnd : List (Frame P H) → Code P H → Type 0
  NeatEnd [] last = Unit {0}
  NeatEnd (in_region before r h ∷ around) last = Unit {0}
  NeatEnd (in_then before h ∷ around) last = Unit {0}
  NeatEnd (in_else before h first ∷ around) last = g.Neat (last ≢ empty)

  -- what it asks of the next mark
  abbrev pub NeatMark : Draft P H → Mark P H → Type 0
  NeatMark d (plain p) = Unit {0}
  NeatMark d (begin r h) = Unit {0}
  NeatMark d (begin_if h) = Unit {0}
  NeatMark d otherwise = Unit {0}
  NeatMark d close = NeatEnd d.around d.last

  neat-end : ((Q : Type 0) → g.Neat Q) → (around : List (Frame P H)) (last : Code P H) → NeatEnd around last
  neat-end free [] last = tt
  neat-end free (in_region before r h ∷ around) last = tt
  neat-end free (in_then before h ∷ around) last = tt
  neat-end free (in_else before h first ∷ around) last = free (last ≢ empty)

  -- a grammar that asks nothing takes any mark
  pub neat-free : ((Q : Type 0) → g.Neat Q) → (d : Draft P H) (m : Mark P H) → NeatMark d m
  neat-free free d (plain p) = tt
  neat-free free d (begin r h) = tt
  neat-free free d (begin_if h) = tt
  neat-free free d otherwise = tt
  neat-free free d close = neat-end free d.around d.last

  else-spelled : (a b : List A) (around : List (Frame P H)) (last : Code P H) → SpellsDraft g a (draft around last)
      → ElseIn g b around → SpellsDraft g (a ++ b) (turned around last)
  else-spelled a b [] last s m = absurd m
  else-spelled a b (in_region before r h ∷ around) last s m = absurd m
  else-spelled a b (in_then before h ∷ around) last s m =
      let o = s.3 in (
        a ++ b,
        [],
        sym (append-nil (a ++ b)),
        (
          o.0,
          o.1,
          o.2,
          s.1,
          b,
          (ap (λ (x : List A). x ++ b) s.2 ∙ ap (λ (x : List A). (x ++ s.1) ++ b) o.3 ∙ simp append_assoc),
          o.4,
          o.5,
          o.6,
          s.4,
          m,
        ),
        refl,
      )
  else-spelled a b (in_else before h first ∷ around) last s m = absurd m

  end-spelled : (a b : List A) (around : List (Frame P H)) (last : Code P H) → SpellsDraft g a (draft around last)
      → EndIn g b around → NeatEnd around last → SpellsDraft g (a ++ b) (closed around last)
  end-spelled a b [] last s m n = absurd m
  end-spelled a b (in_region before r h ∷ around) last s m n =
      let o = s.3 in
      let new : Spells g (o.2 ++ (s.1 ++ b)) (region r h last empty) =
      (o.2, s.1, b, [], simp append-nil, o.6, s.4, m, refl) in (
        o.0,
        o.1 ++ (o.2 ++ (s.1 ++ b)),
        (ap (λ (x : List A). x ++ b) s.2 ∙ ap (λ (x : List A). (x ++ s.1) ++ b) o.3 ∙ simp append_assoc),
        o.4,
        Spells-append o.1 (o.2 ++ (s.1 ++ b)) before (region r h last empty) o.5 new,
      )
  end-spelled a b (in_then before h ∷ around) last s m n =
      let o = s.3 in
      let new : Spells g (o.2 ++ (s.1 ++ b)) (choice h last empty empty) =
      (o.2, s.1, [], b, [], simp append-nil, o.6, s.4, inl (refl, refl), m, refl) in (
        o.0,
        o.1 ++ (o.2 ++ (s.1 ++ b)),
        (ap (λ (x : List A). x ++ b) s.2 ∙ ap (λ (x : List A). (x ++ s.1) ++ b) o.3 ∙ simp append_assoc),
        o.4,
        Spells-append o.1 (o.2 ++ (s.1 ++ b)) before (choice h last empty empty) o.5 new,
      )
  end-spelled a b (in_else before h first ∷ around) last s m n =
      let o = s.3 in
      let new : Spells g (o.2 ++ (o.3 ++ ((o.4 ++ s.1) ++ b))) (choice h first last empty) =
      (o.2, o.3, o.4 ++ s.1, b, [], simp append-nil, o.8, o.9, inr (o.4, s.1, refl, o.10, s.4, n), m, refl) in (
        o.0,
        o.1 ++ (o.2 ++ (o.3 ++ ((o.4 ++ s.1) ++ b))),
        (ap (λ (x : List A). x ++ b) s.2 ∙ ap (λ (x : List A). (x ++ s.1) ++ b) o.5 ∙ simp append_assoc),
        o.6,
        Spells-append o.1 (o.2 ++ (o.3 ++ ((o.4 ++ s.1) ++ b))) before (choice h first last empty) o.7 new,
      )

  -- one more mark
  pub step-spelled : (a b : List A) (d : Draft P H) (m : Mark P H) → SpellsDraft g a d → SpellsMark g b d m
      → NeatMark d m → SpellsDraft g (a ++ b) (step d m)
  step-spelled a b d (plain p) s m n = (
    s.0,
    s.1 ++ b,
    ap (λ (x : List A). x ++ b) s.2 ∙ simp append_assoc,
    s.3,
    Spells-append s.1 b d.last
        (op p empty) s.4 (b, [], simp append-nil, m, refl),
  )
  step-spelled a b d (begin r h) s m n = (
    a ++ b,
    [],
    sym (append-nil (a ++ b)),
    (
      s.0,
      s.1,
      b,
      ap (λ (x : List A). x ++ b) s.2
          ∙ simp append_assoc,
      s.3,
      s.4,
      m,
    ),
    refl,
  )
  step-spelled a b d (begin_if h) s m n = (
    a ++ b,
    [],
    sym (append-nil (a ++ b)),
    (
      s.0,
      s.1,
      b,
      ap (λ (x : List A). x ++ b) s.2
          ∙ simp append_assoc,
      s.3,
      s.4,
      m,
    ),
    refl,
  )
  step-spelled a b d otherwise s m n = else-spelled a b d.around d.last s m
  step-spelled a b d close s m n = end-spelled a b d.around d.last s m n

  -- letters that spell nothing yet
  pub start-spelled : SpellsDraft g [] (whole empty)
  start-spelled = ([], [], refl, refl, refl)

  -- where nothing is open, the letters spell the instructions
  pub whole-spelled : (a : List A) (code : Code P H) → SpellsDraft g a (whole code) → Spells g a code
  whole-spelled a code s = rw (s.2, s.3) s.4
