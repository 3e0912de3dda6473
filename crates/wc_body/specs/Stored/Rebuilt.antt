-- What is laid out as marks is built again of them.
use Rattle.std.proofs.Common.{◌≡◌, List, [], ◌∷◌, refl, ap, ◌∙◌}
use Rattle.wc_body.specs.Standard.Nested.{Code, empty, op, region, choice, Mark, begin, begin_if, otherwise, close}
use Rattle.wc_body.specs.Standard.Nested.{◌⧺◌}
use Rattle.wc_body.specs.Standard.Nested.{else_mark, flat, flatten}
use Rattle.wc_body.specs.Standard.Draft.{Frame, in_region, in_then, in_else, Draft, draft, whole, steps, built}
use Rattle.wc_body.specs.Standard.Draft.{open_marks, upto}

module _ {P H : Type 0} where
  -- nothing joined behind instructions leaves them as they are
  pub append-empty : (is : Code P H) → is ⧺ empty ≡ is
  append-empty empty = refl
  append-empty (op p next) = ap (λ (x : Code P H). op p x) (append-empty next)
  append-empty (region r h inside next) = ap (λ (x : Code P H). region r h inside x) (append-empty next)
  append-empty (choice h one two next) = ap (λ (x : Code P H). choice h one two x) (append-empty next)

  -- of three rows of instructions it makes no difference which two are joined first
  pub append-assoc : (is js ks : Code P H) → (is ⧺ js) ⧺ ks ≡ is ⧺ (js ⧺ ks)
  append-assoc empty js ks = refl
  append-assoc (op p next) js ks = ap (λ (x : Code P H). op p x) (append-assoc next js ks)
  append-assoc (region r h inside next) js ks = ap (λ (x : Code P H). region r h inside x) (append-assoc next js ks)
  append-assoc (choice h one two next) js ks = ap (λ (x : Code P H). choice h one two x) (append-assoc next js ks)

  -- read behind a first part, the marks of an else part and its end make the if whole
  second_part : (before : Code P H) (h : H) (one two : Code P H) (around : List (Frame P H)) (after : List (Mark P H))
      → ((d : Draft P H) (after : List (Mark P H)) → steps d (flat two after) ≡ steps
      (draft d.around (d.last ⧺ two)) after)
      → steps (draft (in_then before h ∷ around) one) (else_mark two (flat two (close ∷ after))) ≡ steps
      (draft around (before ⧺ choice h one two empty)) after
  second_part before h one empty around after ih = refl
  second_part before h one (op p more) around after ih = ih (draft (in_else before h one ∷ around) empty)
      (close ∷ after)
  second_part before h one (region r g inside more) around after ih =
      ih (draft (in_else before h one ∷ around) empty) (close ∷ after)
  second_part before h one (choice g a b more) around after ih =
      ih (draft (in_else before h one ∷ around) empty) (close ∷ after)

  -- reading the marks of instructions adds them to what was there
  pub steps-flat : (d : Draft P H) (is : Code P H) (after : List (Mark P H))
      → steps d (flat is after) ≡ steps (draft d.around (d.last ⧺ is)) after
  steps-flat d empty after = rw append-empty refl
  steps-flat d (op p next) after = steps-flat (draft d.around (d.last ⧺ op p empty)) next after ∙ rw append-assoc refl
  steps-flat d (region r h inside next) after =
      steps-flat (draft (in_region d.last r h ∷ d.around) empty) inside (close ∷ flat next after)
      ∙ steps-flat (draft d.around (d.last ⧺ region r h inside empty)) next after
      ∙ rw append-assoc refl
  steps-flat d (choice h one two next) after =
      steps-flat (draft (in_then d.last h ∷ d.around) empty) one (else_mark two (flat two (close ∷ flat next after)))
      ∙ second_part d.last h one two d.around (flat next after) (λ e more. steps-flat e two more)
      ∙ steps-flat (draft d.around (d.last ⧺ choice h one two empty)) next after
      ∙ rw append-assoc refl

  -- the marks of instructions build them, and leave nothing open
  pub built_flatten : (is : Code P H) → built (flatten is) ≡ whole is
  built_flatten is = steps-flat (whole empty) is []

  -- reading the marks of what is open opens it
  pub steps-front : (around : List (Frame P H)) (after : List (Mark P H))
      → steps (whole empty) (open_marks around after) ≡ steps (draft around empty) after
  steps-front [] after = refl
  steps-front (in_region before r h ∷ around) after = steps-front around (flat before (begin r h ∷ after))
      ∙ steps-flat (draft around empty) before (begin r h ∷ after)
  steps-front (in_then before h ∷ around) after = steps-front around (flat before (begin_if h ∷ after))
      ∙ steps-flat (draft around empty) before (begin_if h ∷ after)
  steps-front (in_else before h first ∷ around) after =
      steps-front around (flat before (begin_if h ∷ flat first (otherwise ∷ after)))
      ∙ steps-flat (draft around empty) before (begin_if h ∷ flat first (otherwise ∷ after))
      ∙ steps-flat (draft (in_then before h ∷ around) empty) first (otherwise ∷ after)

  -- the marks of a draft build it
  pub built_upto : (d : Draft P H) → built (upto d []) ≡ d
  built_upto d = steps-front d.around (flat d.last []) ∙ steps-flat (draft d.around empty) d.last []
