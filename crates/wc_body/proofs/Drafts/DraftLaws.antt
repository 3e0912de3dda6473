-- Laws of nested instructions, their marks and drafts.
use Rattle.std.proofs.Common.{◌≡◌, ℕ, ◌+◌, ◌≤◌, ◌<◌, max, true, List, [], ◌∷◌, ◌++◌, length, refl, sym, ap, ◌∙◌, arith}
use Rattle.std.proofs.lemmas.List.{append-nil}
use Rattle.wc_body.specs.Standard.Nested.{Code, empty, op, region, choice, Mark, plain, begin, begin_if, otherwise}
use Rattle.wc_body.specs.Standard.Nested.{close, ◌⧺◌, else_mark, flat, flatten, nesting}
use Rattle.wc_body.specs.Standard.Draft.{Frame, in_region, in_then, in_else, Draft, draft, whole, step, steps, built}
use Rattle.wc_body.specs.Standard.Draft.{closed, turned, begins, in_first_part, open_marks, upto, reach}
use Rattle.wc_body.specs.Drafting.Staying.{may_stay, may_end, AllMayStay}
use Rattle.wc_body.specs.Stored.Rebuilt.{append-empty, append-assoc, built_flatten}

module _ {P H : Type 0} where
  pub flat-append : (is js : Code P H) (after : List (Mark P H)) → flat (is ⧺ js) after ≡ flat is (flat js after)
  flat-append empty js after = refl
  flat-append (op p next) js after = ap (λ (x : List (Mark P H)). plain p ∷ x) (flat-append next js after)
  flat-append (region r h inside next) js after = ap (λ (x : List (Mark P H)). begin r h ∷ flat inside (close ∷ x))
      (flat-append next js after)
  flat-append (choice h one two next) js after = ap (λ (x : List (Mark P H)). begin_if h ∷ flat one
      (else_mark two (flat two (close ∷ x)))) (flat-append next js after)

  pub nesting-append : (is js : Code P H) → nesting (is ⧺ js) ≡ max (nesting is) (nesting js)
  nesting-append empty js = omega arith
  nesting-append (op p next) js = nesting-append next js
  nesting-append (region r h inside next) js = omega (arith, nesting-append next js)
  nesting-append (choice h one two next) js = omega (arith, nesting-append next js)

  pub steps-append : (d : Draft P H) (ms ns : List (Mark P H)) → steps d (ms ++ ns) ≡ steps (steps d ms) ns
  steps-append d [] ns = refl
  steps-append d (m ∷ ms) ns = steps-append (step d m) ms ns

  close-upto : (around : List (Frame P H)) (last : Code P H) (after : List (Mark P H)) → may_end around last ≡ true
      → upto (closed around last) after ≡ upto (draft around last) (close ∷ after)
  close-upto [] last after e = absurd cc
  close-upto (in_region before r h ∷ around) last after e = ap (λ (x : List (Mark P H)). open_marks around x)
      (flat-append before (region r h last empty) after)
  close-upto (in_then before h ∷ around) last after e = ap (λ (x : List (Mark P H)). open_marks around x)
      (flat-append before (choice h last empty empty) after)
  close-upto (in_else before h first ∷ around) empty after e = absurd cc
  close-upto (in_else before h first ∷ around) (op p next) after e =
      ap (λ (x : List (Mark P H)). open_marks around x) (flat-append before (choice h first (op p next) empty) after)
  close-upto (in_else before h first ∷ around) (region r g inside next) after e =
      ap (λ (x : List (Mark P H)). open_marks around x) (flat-append before
      (choice h first (region r g inside next) empty) after)
  close-upto (in_else before h first ∷ around) (choice g a b next) after e =
      ap (λ (x : List (Mark P H)). open_marks around x) (flat-append before (choice h first (choice g a b next) empty)
      after)

  else-upto : (around : List (Frame P H)) (last : Code P H) (after : List (Mark P H)) → in_first_part around ≡ true
      → upto (turned around last) after ≡ upto (draft around last) (otherwise ∷ after)
  else-upto [] last after e = absurd cc
  else-upto (in_region before r h ∷ around) last after e = absurd cc
  else-upto (in_then before h ∷ around) last after e = refl
  else-upto (in_else before h first ∷ around) last after e = absurd cc

  -- a mark that comes stands behind the marks so far
  pub step-upto : (d : Draft P H) (m : Mark P H) (after : List (Mark P H)) → may_stay d m ≡ true
      → upto (step d m) after ≡ upto d (m ∷ after)
  step-upto d (plain p) after e = ap (λ (x : List (Mark P H)).
      open_marks d.around x) (flat-append d.last (op p empty) after)
  step-upto d (begin r h) after e = refl
  step-upto d (begin_if h) after e = refl
  step-upto d otherwise after e = else-upto d.around d.last after e
  step-upto d close after e = close-upto d.around d.last after e

  pub steps-upto : (d : Draft P H) (ms after : List (Mark P H)) → AllMayStay d ms
      → upto (steps d ms) after ≡ upto d (ms ++ after)
  steps-upto d [] after h = refl
  steps-upto d (m ∷ ms) after h = steps-upto (step d m) ms after h.1 ∙ step-upto d m (ms ++ after) h.0

  -- marks that may come are those of what they build
  pub upto-built : (ms : List (Mark P H)) → AllMayStay (whole empty) ms → upto (built ms) [] ≡ ms
  upto-built ms h = steps-upto (whole empty) ms [] h ∙ append-nil ms

  pub AllMayStay-append : (d : Draft P H) (ms ns : List (Mark P H)) → AllMayStay d ms → AllMayStay (steps d ms) ns
      → AllMayStay d (ms ++ ns)
  AllMayStay-append d [] ns h k = k
  AllMayStay-append d (m ∷ ms) ns h k = (h.0, AllMayStay-append (step d m) ms ns h.1 k)

  stay_second : (before : Code P H) (h : H) (one two : Code P H) (around : List (Frame P H)) (after : List (Mark P H))
      → ((d : Draft P H) (after : List (Mark P H)) → AllMayStay (draft d.around (d.last ⧺ two)) after
      → AllMayStay d (flat two after))
      → AllMayStay (draft around (before ⧺ choice h one two empty)) after
      → AllMayStay (draft (in_then before h ∷ around) one) (else_mark two (flat two (close ∷ after)))
  stay_second before h one empty around after ih k = (refl, k)
  stay_second before h one (op p more) around after ih k = (
    refl,
    ih (draft (in_else before h one ∷ around) empty)
        (close ∷ after) (refl, k),
  )
  stay_second before h one (region r g inside more) around after ih k =
      (refl, ih (draft (in_else before h one ∷ around) empty) (close ∷ after) (refl, k))
  stay_second before h one (choice g a b more) around after ih k =
      (refl, ih (draft (in_else before h one ∷ around) empty) (close ∷ after) (refl, k))

  -- the marks of instructions may come in any draft
  pub AllMayStay-flat : (d : Draft P H) (is : Code P H) (after : List (Mark P H))
      → AllMayStay (draft d.around (d.last ⧺ is)) after → AllMayStay d (flat is after)
  AllMayStay-flat d empty after k = rw append-empty at k
  AllMayStay-flat d (op p next) after k = (
    refl,
    AllMayStay-flat (draft d.around (d.last ⧺ op p empty)) next after
        (rw append-assoc k),
  )
  AllMayStay-flat d (region r h inside next) after k = (
    refl,
    AllMayStay-flat (draft (in_region d.last r h ∷ d.around) empty) inside (close ∷ flat next after)
        (refl, AllMayStay-flat (draft d.around (d.last ⧺ region r h inside empty)) next after (rw append-assoc k)),
  )
  AllMayStay-flat d (choice h one two next) after k = (
    refl,
    AllMayStay-flat (draft (in_then d.last h ∷ d.around) empty) one (else_mark two (flat two (close ∷ flat next after)))
        (stay_second d.last h one two d.around (flat next after) (λ e more. AllMayStay-flat e two more)
        (AllMayStay-flat (draft d.around (d.last ⧺ choice h one two empty)) next after (rw append-assoc k))),
  )

  -- reach
  pub reach-mono : (around : List (Frame P H)) (m n limit : ℕ) → m ≤ n → reach around n ≤ limit → reach around m ≤ limit
  reach-mono [] m n limit le h = omega arith
  reach-mono (in_region before r h ∷ around) m n limit le k =
      reach-mono around (max (nesting before) (m + 1)) (max (nesting before) (n + 1)) limit (omega arith) k
  reach-mono (in_then before h ∷ around) m n limit le k = reach-mono around (max (nesting before) (m + 1))
      (max (nesting before) (n + 1)) limit (omega arith) k
  reach-mono (in_else before h first ∷ around) m n limit le k =
      reach-mono around (max (nesting before) (max (nesting first) m + 1))
      (max (nesting before) (max (nesting first) n + 1)) limit (omega arith) k

  -- more within the innermost
  pub reach-more : (around : List (Frame P H)) (a b c limit : ℕ) → reach around a ≤ limit → length around + b ≤ limit
      → c ≤ max a b → reach around c ≤ limit
  reach-more [] a b c limit h k le = omega arith
  reach-more (in_region before r h ∷ around) a b c limit k len le =
      reach-more around (max (nesting before) (a + 1)) (b + 1) (max (nesting before) (c + 1)) limit k (omega arith)
      (omega arith)
  reach-more (in_then before h ∷ around) a b c limit k len le =
      reach-more around (max (nesting before) (a + 1)) (b + 1) (max (nesting before) (c + 1)) limit k (omega arith)
      (omega arith)
  reach-more (in_else before h first ∷ around) a b c limit k len le =
      reach-more around (max (nesting before) (max (nesting first) a + 1)) (b + 1)
      (max (nesting before) (max (nesting first) c + 1)) limit k (omega arith) (omega arith)

  closed-reach : (around : List (Frame P H)) (last : Code P H) (limit : ℕ) → reach around (nesting last) ≤ limit
      → reach (closed around last).around (nesting (closed around last).last) ≤ limit
  closed-reach [] last limit h = h
  closed-reach (in_region before r h ∷ around) last limit k =
      reach-mono around (nesting (before ⧺ region r h last empty)) (max (nesting before) (nesting last + 1)) limit
      (omega (arith, nesting-append before (region r h last empty))) k
  closed-reach (in_then before h ∷ around) last limit k = reach-mono around
      (nesting (before ⧺ choice h last empty empty)) (max (nesting before) (nesting last + 1)) limit
      (omega (arith, nesting-append before (choice h last empty empty))) k
  closed-reach (in_else before h first ∷ around) last limit k =
      reach-mono around (nesting (before ⧺ choice h first last empty))
      (max (nesting before) (max (nesting first) (nesting last) + 1)) limit
      (omega (arith, nesting-append before (choice h first last empty))) k

  turned-reach : (around : List (Frame P H)) (last : Code P H) (limit : ℕ) → reach around (nesting last) ≤ limit
      → reach (turned around last).around (nesting (turned around last).last) ≤ limit
  turned-reach [] last limit h = h
  turned-reach (in_region before r h ∷ around) last limit k = k
  turned-reach (in_then before h ∷ around) last limit k = reach-mono around
      (max (nesting before) (max (nesting last) 0 + 1)) (max (nesting before) (nesting last + 1)) limit (omega arith) k
  turned-reach (in_else before h first ∷ around) last limit k = k

  -- one more is open only within the limit
  pub step-reach : (d : Draft P H) (m : Mark P H) (limit : ℕ) → reach d.around (nesting d.last) ≤ limit
      → (begins m ≡ true → length d.around < limit) → reach (step d m).around (nesting (step d m).last) ≤ limit
  step-reach d (plain p) limit h room = reach-mono d.around (nesting (d.last ⧺ op p empty)) (nesting d.last) limit
      (omega (arith, nesting-append d.last (op p empty))) h
  step-reach d (begin r g) limit h room = let lt : length d.around < limit = room refl in
      reach-more d.around (nesting d.last) 1 (max (nesting d.last) 1) limit h (omega arith) (omega arith)
  step-reach d (begin_if g) limit h room = let lt : length d.around < limit = room refl in
      reach-more d.around (nesting d.last) 1 (max (nesting d.last) 1) limit h (omega arith) (omega arith)
  step-reach d otherwise limit h room = turned-reach d.around d.last limit h
  step-reach d close limit h room = closed-reach d.around d.last limit h

  pub flatten_injective : (a b : Code P H) → flatten a ≡ flatten b → a ≡ b
  flatten_injective a b e =
      sym (ap (λ (d : Draft P H). d.last) (built_flatten a)) ∙ ap (λ (ms : List (Mark P H)). (built ms).last) e
      ∙ ap (λ (d : Draft P H). d.last) (built_flatten b)
