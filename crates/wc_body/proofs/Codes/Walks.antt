-- A walk over the marks, which knows what encloses it, meets the instructions as they are placed.
use Rattle.std.proofs.Common.{◌≡◌, ℕ, ◌+◌, ◌-◌, ◌≤◌, List, [], ◌∷◌, ◌++◌, refl, sym, ap, ◌∙◌, append_assoc, arith}
use Rattle.std.proofs.Common.{true, ◌<◌, length}
use Rattle.std.proofs.lemmas.List.{append-nil}
use Rattle.wc_body.specs.Standard.Nested.{Code, empty, op, region, choice, Mark, plain, begin, begin_if, otherwise}
use Rattle.wc_body.specs.Standard.Nested.{close, else_mark, flat, flatten, nesting, ◌⧺◌}
use Rattle.wc_body.specs.Standard.Draft.{Frame, in_region, in_then, in_else, Draft, draft, whole, step, begins}
use Rattle.wc_body.specs.Drafting.Staying.{may_stay}
use Rattle.wc_body.specs.Stored.Rebuilt.{append-empty, append-assoc}
use Rattle.wc_body.specs.Standard.Placed.{placed, mapped, deeper}

module _ {S P H : Type 0} (enter : S → H → S) (leave : S → S) where
  -- what a walk meets from here on
  abbrev pub met : S → List (Mark P H) → List (S × Mark P H)
  met s [] = []
  met s (plain p ∷ ms) = (s, plain p) ∷ met s ms
  met s (begin r h ∷ ms) = (s, begin r h) ∷ met (enter s h) ms
  met s (begin_if h ∷ ms) = (s, begin_if h) ∷ met (enter s h) ms
  met s (otherwise ∷ ms) = met s ms
  met s (close ∷ ms) = met (leave s) ms

  -- the marks that a walk writes from here on
  abbrev pub written : {Q I : Type 0} → (S → P → Q) → (S → H → I) → S → List (Mark P H) → List (Mark Q I)
  written f k s [] = []
  written f k s (plain p ∷ ms) = plain (f s p) ∷ written f k s ms
  written f k s (begin r h ∷ ms) = begin r (k s h) ∷ written f k (enter s h) ms
  written f k s (begin_if h ∷ ms) = begin_if (k s h) ∷ written f k (enter s h) ms
  written f k s (otherwise ∷ ms) = otherwise ∷ written f k s ms
  written f k s (close ∷ ms) = close ∷ written f k (leave s) ms

  met-else : (s : S) (second : Code P H) (ms : List (Mark P H)) → met s (else_mark second ms) ≡ met s ms
  met-else s empty ms = refl
  met-else s (op p next) ms = refl
  met-else s (region r h inside next) ms = refl
  met-else s (choice h first second next) ms = refl

module _ {S P H : Type 0} (enter : S → H → S) (leave : S → S) (back : (s : S) (h : H) → leave (enter s h) ≡ s) where
  pub met-flat : (s : S) (is : Code P H) (after : List (Mark P H))
      → met enter leave s (flat is after) ≡ placed enter s is ++ met enter leave s after
  met-flat s empty after = refl
  met-flat s (op p next) after = ap (λ (x : List (S × Mark P H)). (s, plain p) ∷ x) (met-flat s next after)
  met-flat s (region r h inside next) after =
      ap (λ (x : List (S × Mark P H)). (s, begin r h) ∷ x)
      (met-flat (enter s h) inside (close ∷ flat next after)
      ∙ ap (λ (x : List (S × Mark P H)). placed enter (enter s h) inside ++ x)
      (ap (λ (t : S). met enter leave t (flat next after)) (back s h) ∙ met-flat s next after)
      ∙ sym (append_assoc (placed enter (enter s h) inside) (placed enter s next) (met enter leave s after)))
  met-flat s (choice h first second next) after =
      ap (λ (x : List (S × Mark P H)). (s, begin_if h) ∷ x)
      (met-flat (enter s h) first (else_mark second (flat second (close ∷ flat next after)))
      ∙ ap (λ (x : List (S × Mark P H)). placed enter (enter s h) first ++ x)
      (met-else enter leave (enter s h) second (flat second (close ∷ flat next after))
      ∙ met-flat (enter s h) second (close ∷ flat next after)
      ∙ ap (λ (x : List (S × Mark P H)). placed enter (enter s h) second ++ x)
      (ap (λ (t : S). met enter leave t (flat next after)) (back s h) ∙ met-flat s next after)
      ∙ sym (append_assoc (placed enter (enter s h) second) (placed enter s next) (met enter leave s after)))
      ∙ sym (append_assoc (placed enter (enter s h) first) (placed enter (enter s h) second ++ placed enter s next)
      (met enter leave s after)))

  pub met-flatten : (s : S) (is : Code P H) → met enter leave s (flatten is) ≡ placed enter s is
  met-flatten s is = met-flat s is [] ∙ append-nil (placed enter s is)

  -- the marks that a walk writes are those of the mapped instructions
  written-flat : {Q I : Type 0} (f : S → P → Q) (k : S → H → I) (s : S) (is : Code P H) (after : List (Mark P H))
      → written enter leave f k s (flat is after) ≡ flat (mapped enter f k s is) (written enter leave f k s after)
  written-flat f k s empty after = refl
  written-flat {Q} {I} f k s (op p next) after = ap (λ (x : List (Mark Q I)). plain (f s p) ∷ x)
      (written-flat f k s next after)
  written-flat {Q} {I} f k s (region r h inside next) after =
      ap (λ (x : List (Mark Q I)). begin r (k s h) ∷ x)
      (written-flat f k (enter s h) inside (close ∷ flat next after)
      ∙ ap (λ (x : List (Mark Q I)). flat (mapped enter f k (enter s h) inside) (close ∷ x))
      (ap (λ (t : S). written enter leave f k t (flat next after)) (back s h) ∙ written-flat f k s next after))
  written-flat {Q} {I} f k s (choice h first second next) after =
      ap (λ (x : List (Mark Q I)). begin_if (k s h) ∷ x)
      (written-flat f k (enter s h) first (else_mark second (flat second (close ∷ flat next after)))
      ∙ ap (λ (x : List (Mark Q I)). flat (mapped enter f k (enter s h) first) x)
      (written-else second (flat second (close ∷ flat next after))
      ∙ ap (λ (x : List (Mark Q I)). else_mark (mapped enter f k (enter s h) second) x)
      (written-flat f k (enter s h) second (close ∷ flat next after)
      ∙ ap (λ (x : List (Mark Q I)). flat (mapped enter f k (enter s h) second) (close ∷ x))
      (ap (λ (t : S). written enter leave f k t (flat next after)) (back s h) ∙ written-flat f k s next after))))
    where
      written-else : (second : Code P H) (ms : List (Mark P H))
          → written enter leave f k (enter s h) (else_mark second ms) ≡ else_mark
          (mapped enter f k (enter s h) second) (written enter leave f k (enter s h) ms)
      written-else empty ms = refl
      written-else (op p next) ms = refl
      written-else (region r g inside next) ms = refl
      written-else (choice g a b next) ms = refl

  pub written-flatten : {Q I : Type 0} (f : S → P → Q) (k : S → H → I) (s : S) (is : Code P H)
      → written enter leave f k s (flatten is) ≡ flatten (mapped enter f k s is)
  written-flatten f k s is = written-flat f k s is []

pub mapped-nesting : {S P H Q I : Type 0} (enter : S → H → S) (f : S → P → Q) (k : S → H → I) (s : S) (is : Code P H)
    → nesting (mapped enter f k s is) ≡ nesting is
mapped-nesting enter f k s empty = refl
mapped-nesting enter f k s (op p next) = mapped-nesting enter f k s next
mapped-nesting enter f k s (region r h inside next) = omega (
  arith,
  mapped-nesting enter f k (enter s h) inside,
  mapped-nesting enter f k s next,
)
mapped-nesting enter f k s (choice h first second next) = omega (
  arith,
  mapped-nesting enter f k (enter s h) first,
  mapped-nesting enter f k (enter s h) second,
  mapped-nesting enter f k s next,
)

pub deeper-back : {H : Type 0} (n : ℕ) (h : H) → deeper n h - 1 ≡ n
deeper-back n h = omega arith

-- ---- marks that build instructions
module _ {P H : Type 0} (limit : ℕ) where
  -- the marks may come one after the other behind this draft, and then it is the whole of these instructions
  abbrev pub Finishes : Draft P H → List (Mark P H) → Code P H → Type 0
  Finishes d [] code = d ≡ whole code
  Finishes d (m ∷ ms) code = (may_stay d m ≡ true) × (begins m ≡ true → length d.around < limit)
      × Finishes (step d m) ms code

  finishes-second : (before : Code P H) (h : H) (one two : Code P H) (around : List (Frame P H))
      (after : List (Mark P H)) (code : Code P H)
      → ((d : Draft P H) (after : List (Mark P H)) → length d.around + nesting two ≤ limit
      → Finishes (draft d.around (d.last ⧺ two)) after code → Finishes d (flat two after) code)
      → length around + 1 + nesting two ≤ limit
      → Finishes (draft around (before ⧺ choice h one two empty)) after code
      → Finishes (draft (in_then before h ∷ around) one) (else_mark two (flat two (close ∷ after))) code
  finishes-second before h one empty around after code ih room k = (refl, λ e. absurd cc, k)
  finishes-second before h one (op p more) around after code ih room k = (
    refl,
    λ e. absurd cc,
    ih (draft (in_else before h one ∷ around) empty) (close ∷ after) (omega arith)
        (refl, λ e. absurd cc, k),
  )
  finishes-second before h one (region r g inside more) around after code ih room k = (
    refl,
    λ e. absurd cc,
    ih (draft (in_else before h one ∷ around) empty) (close ∷ after) (omega arith)
        (refl, λ e. absurd cc, k),
  )
  finishes-second before h one (choice g a b more) around after code ih room k = (
    refl,
    λ e. absurd cc,
    ih (draft (in_else before h one ∷ around) empty) (close ∷ after) (omega arith)
        (refl, λ e. absurd cc, k),
  )

  finishes-flat : (d : Draft P H) (is : Code P H) (after : List (Mark P H)) (code : Code P H)
      → length d.around + nesting is ≤ limit
      → Finishes (draft d.around (d.last ⧺ is)) after code → Finishes d (flat is after) code
  finishes-flat d empty after code room k = rw append-empty at k
  finishes-flat d (op p next) after code room k = (
    refl,
    λ e. absurd cc,
    finishes-flat
        (draft d.around (d.last ⧺ op p empty)) next after code room (rw append-assoc k),
  )
  finishes-flat d (region r h inside next) after code room k = (
    refl,
    λ _. omega arith,
    finishes-flat (draft (in_region d.last r h ∷ d.around) empty) inside (close ∷ flat next after) code (omega arith) (
      refl,
      λ e. absurd cc,
      finishes-flat (draft d.around (d.last ⧺ region r h inside empty)) next after code
          (omega arith) (rw append-assoc k),
    ),
  )
  finishes-flat d (choice h one two next) after code room k = (
    refl,
    λ _. omega arith,
    finishes-flat (draft (in_then d.last h ∷ d.around) empty) one
        (else_mark two (flat two (close ∷ flat next after))) code (omega arith)
        (finishes-second d.last h one two d.around (flat next after) code
        (λ e more room k. finishes-flat e two more code room k) (omega arith)
        (finishes-flat (draft d.around (d.last ⧺ choice h one two empty)) next after code (omega arith)
        (rw append-assoc k))),
  )

  pub finishes-flatten : (code : Code P H) → nesting code ≤ limit → Finishes (whole empty) (flatten code) code
  finishes-flatten code room = finishes-flat (whole empty) code [] code (omega arith) refl
