-- A walk that writes pieces writes those of the instructions.
use Rattle.std.proofs.Common.{◌≡◌, ◌≢◌, ◌⊎◌, List, [], ◌∷◌, ◌++◌, refl, sym, ap, ◌∙◌, append_assoc, inl, inr}
use Rattle.std.proofs.lemmas.List.{append-nil}
use Rattle.wc_body.specs.Standard.Nested.{Region, Code, empty, op, region, choice, Mark, plain, begin, begin_if}
use Rattle.wc_body.specs.Standard.Nested.{otherwise, close, else_mark, flat, flatten}
use Rattle.wc_body.specs.Standard.Grammar.{Grammar, Spells}
use Rattle.wc_body.specs.Standard.Throughout.{Throughout}
use Rattle.wc_body.specs.Standard.Pieces.{Pieces, emitted, else_piece}

module _ {S P H X : Type 0} (w : Pieces S P H X) (leave : S → S) where
  -- what a walk writes from here on
  abbrev pub emits : S → List (Mark P H) → List X
  emits s [] = []
  emits s (plain p ∷ ms) = w.plain s p ++ emits s ms
  emits s (begin r h ∷ ms) = w.begin s r h ++ emits (w.enter s h) ms
  emits s (begin_if h ∷ ms) = w.begin_if s h ++ emits (w.enter s h) ms
  emits s (otherwise ∷ ms) = w.otherwise (leave s) ++ emits s ms
  emits s (close ∷ ms) = w.close (leave s) ++ emits (leave s) ms

module _ {S P H X : Type 0} (w : Pieces S P H X) (leave : S → S)
    (back : (s : S) (h : H) → leave (w.enter s h) ≡ s) where
  emits-close : (s : S) (h : H) (ms : List (Mark P H)) → emits w leave (w.enter s h)
      (close ∷ ms) ≡ w.close s ++ emits w leave s ms
  emits-close s h ms = ap (λ (t : S). w.close t ++ emits w leave t ms) (back s h)

  emits-else : (s : S) (h : H) (second : Code P H) (ms : List (Mark P H))
      → emits w leave (w.enter s h) (else_mark second ms) ≡ else_piece w s second (emits w leave (w.enter s h) ms)
  emits-else s h empty ms = refl
  emits-else s h (op p next) ms = ap (λ (t : S). w.otherwise t ++ emits w leave (w.enter s h) ms) (back s h)
  emits-else s h (region r g inside next) ms = ap (λ (t : S). w.otherwise t ++ emits w leave (w.enter s h) ms)
      (back s h)
  emits-else s h (choice g first second next) ms = ap (λ (t : S). w.otherwise t ++ emits w leave (w.enter s h) ms)
      (back s h)

  else-append : (s : S) (second : Code P H) (a b : List X) → else_piece w s second
      (a ++ b) ≡ else_piece w s second a ++ b
  else-append s empty a b = refl
  else-append s (op p next) a b = sym (append_assoc (w.otherwise s) a b)
  else-append s (region r g inside next) a b = sym (append_assoc (w.otherwise s) a b)
  else-append s (choice g first second next) a b = sym (append_assoc (w.otherwise s) a b)

  pub emits-flat : (s : S) (is : Code P H) (after : List (Mark P H))
      → emits w leave s (flat is after) ≡ emitted w s is ++ emits w leave s after
  emits-flat s empty after = refl
  emits-flat s (op p next) after = ap (λ (x : List X). w.plain s p ++ x) (emits-flat s next after)
      ∙ sym (append_assoc (w.plain s p) (emitted w s next) (emits w leave s after))
  emits-flat s (region r h inside next) after =
      ap (λ (x : List X). w.begin s r h ++ x)
      (emits-flat (w.enter s h) inside (close ∷ flat next after)
      ∙ ap (λ (x : List X). emitted w (w.enter s h) inside ++ x)
      (emits-close s h (flat next after) ∙ ap (λ (x : List X). w.close s ++ x) (emits-flat s next after)))
      ∙ four (w.begin s r h) (emitted w (w.enter s h) inside) (w.close s) (emitted w s next) (emits w leave s after)
    where
      four : (a b c d e : List X) → a ++ (b ++ (c ++ (d ++ e))) ≡ (a ++ (b ++ (c ++ d))) ++ e
      four a b c d e = simp append_assoc
  emits-flat s (choice h first second next) after =
      ap (λ (x : List X). w.begin_if s h ++ x)
      (emits-flat (w.enter s h) first (else_mark second (flat second (close ∷ flat next after)))
      ∙ ap (λ (x : List X). emitted w (w.enter s h) first ++ x)
      (emits-else s h second (flat second (close ∷ flat next after))
      ∙ ap (λ (x : List X). else_piece w s second x) (emits-flat (w.enter s h) second (close ∷ flat next after))
      ∙ else-append s second (emitted w (w.enter s h) second) (emits w leave (w.enter s h) (close ∷ flat next after))
      ∙ ap (λ (x : List X). else_piece w s second (emitted w (w.enter s h) second) ++ x)
      (emits-close s h (flat next after) ∙ ap (λ (x : List X). w.close s ++ x) (emits-flat s next after))))
      ∙ five (w.begin_if s h) (emitted w (w.enter s h) first) (else_piece w s second (emitted w (w.enter s h) second))
      (w.close s) (emitted w s next) (emits w leave s after)
    where
      five : (a b f c d e : List X) → a ++ (b ++ (f ++ (c ++ (d ++ e)))) ≡ (a ++ (b ++ (f ++ (c ++ d)))) ++ e
      five a b f c d e = simp append_assoc

  pub emits-flatten : (s : S) (is : Code P H) → emits w leave s (flatten is) ≡ emitted w s is
  emits-flatten s is = emits-flat s is [] ∙ append-nil (emitted w s is)

-- Pieces that are spelled by a grammar spell the instructions together.
module _ {S P H X : Type 0} (w : Pieces S P H X) (g : Grammar X P H) (F : P → Type 0) (G : H → Type 0) where
  -- each piece is a spelling, of parts that meet F and G
  pub record SpellsPieces : Type 1 where
    pub plain : (s : S) (p : P) → F p → g.Plain (w.plain s p) p
    pub begin : (s : S) (r : Region) (h : H) → G h → g.Begin (w.begin s r h) r h
    pub begin_if : (s : S) (h : H) → G h → g.BeginIf (w.begin_if s h) h
    pub otherwise : (s : S) (h : H) → G h → g.Else (w.otherwise s) h
    pub close : (s : S) (h : H) → G h → g.End (w.close s) h
    pub neat : (Q : Type 0) → Q → g.Neat Q

  -- what an else part is written as
  abbrev ElsePart : S → H → List X → Code P H → Type 0
  ElsePart s h a second =
      ((a ≡ []) × (second ≡ empty))
      ⊎ ((t : List X) × (u : List X) × (a ≡ t ++ u) × g.Else t h × Spells g u second × g.Neat (second ≢ empty))

  else-spelled : SpellsPieces → (s : S) (h : H) → G h → (second : Code P H)
      → Spells g (emitted w (w.enter s h) second) second
      → ElsePart s h (else_piece w s second (emitted w (w.enter s h) second)) second
  else-spelled k s h fits empty spelled = inl (refl, refl)
  else-spelled k s h fits (op p next) spelled =
      inr (
        w.otherwise s,
        emitted w (w.enter s h) (op p next),
        refl,
        k.otherwise s h fits,
        spelled,
        k.neat
            ((op p next) ≢ empty) (λ e. absurd cc),
      )
  else-spelled k s h fits (region r i inside next) spelled =
      inr (
        w.otherwise s,
        emitted w (w.enter s h) (region r i inside next),
        refl,
        k.otherwise s h fits,
        spelled,
        k.neat ((region r i inside next) ≢ empty) (λ e. absurd cc),
      )
  else-spelled k s h fits (choice i one two next) spelled =
      inr (
        w.otherwise s,
        emitted w (w.enter s h) (choice i one two next),
        refl,
        k.otherwise s h fits,
        spelled,
        k.neat
            ((choice i one two next) ≢ empty) (λ e. absurd cc),
      )

  pub emitted-spells : SpellsPieces → (s : S) (is : Code P H) → Throughout F G is → Spells g (emitted w s is) is
  emitted-spells k s empty all = refl
  emitted-spells k s (op p next) all =
      (w.plain s p, emitted w s next, refl, k.plain s p all.0, emitted-spells k s next all.1)
  emitted-spells k s (region r h inside next) all = (
    w.begin s r h,
    emitted w (w.enter s h) inside,
    w.close s,
    emitted w s next,
    refl,
    k.begin s r h all.0,
    emitted-spells k (w.enter s h) inside all.1,
    k.close s h all.0,
    emitted-spells k s next all.2,
  )
  emitted-spells k s (choice h first second next) all = (
    w.begin_if s h,
    emitted w (w.enter s h) first,
    else_piece w s second (emitted w (w.enter s h) second),
    w.close s,
    emitted w s next,
    refl,
    k.begin_if s h all.0,
    emitted-spells k (w.enter s h) first all.1,
    else-spelled k s h all.0 second (emitted-spells k (w.enter s h) second all.2),
    k.close s h all.0,
    emitted-spells k s next all.3,
  )
