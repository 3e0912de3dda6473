-- Labels of one less that is open.
use Rattle.std.proofs.Common.{◌≡◌, ℕ, Bool, true, false, cond, List, [], ◌∷◌, ◌++◌, length, map, Option, Some}
use Rattle.std.proofs.Common.{None, is_some, refl, sym, ap, ◌∙◌, arith, length-append, append-nil, subst}
use Rattle.std.proofs.lemmas.List.{map-append}
use Rattle.std.specs.Str.{bytes_eq}
use Rattle.wc_spaces.specs.declared.labels.Open.{Open}
use Rattle.wc_spaces.specs.declared.labels.Labels.{Labels}
use Rattle.wc_spaces.specs.declared.places.Places.{Places}
use Rattle.wc_spaces.specs.Kept.Labels.{height_of, hidden_by, opened, kept_of, IsLabels, IsNamedIn}
use Rattle.wc_spaces.specs.Kept.Places.{place_in, text_of}
use Rattle.wc_spaces.specs.Standard.Spaces.{is_named}
use Rattle.wc_spaces.proofs.FirstStays.{same-text, equal-text}
use Rattle.wc_spaces.proofs.Opening.{same-length}

abbrev head_or : {X : Type 0} → X → List X → X
head_or d [] = d
head_or d (x ∷ xs) = x

abbrev tail_of : {X : Type 0} → List X → List X
tail_of [] = []
tail_of (x ∷ xs) = xs

-- lists that are equal with one item behind each
last-same : {X : Type 0} (xs ys : List X) (x y : X) → xs ++ x ∷ [] ≡ ys ++ y ∷ [] → (xs ≡ ys) × (x ≡ y)
last-same [] [] x y e = (refl, ap (λ z. head_or x z) e)
last-same [] (b ∷ ys) x y e = absurd (omega (arith, ap (λ z. length z) e, length-append ys (y ∷ [])))
last-same (a ∷ xs) [] x y e = absurd (omega (arith, ap (λ z. length z) e, length-append xs (x ∷ [])))
last-same (a ∷ xs) (b ∷ ys) x y e =
    let h = ap (λ z. head_or a z) e in
    let t = last-same xs ys x y (ap (λ z. tail_of z) e) in
    (ap (λ z. z ∷ xs) h ∙ ap (λ z. b ∷ z) t.0, t.1)

height-same : (p q : List ℕ) (b : Bool) → bytes_eq p q ≡ b → (ds : List (Option (List ℕ))) (old : Option ℕ)
    → old ≡ cond b (Some (length ds)) (height_of q ds)
    → cond b (height_of p ds) old ≡ height_of q ds
height-same p q true e ds old f = ap (λ x. height_of x ds) (same-text p q e)
height-same p q false e ds old f = f

-- what the innermost hid is seen again
hidden-again : (d : Option (List ℕ)) (ds : List (Option (List ℕ))) (q : List ℕ) (old new : Option ℕ)
    → old ≡ height_of q (d ∷ ds) → new ≡ cond (is_named q d) (hidden_by d ds) old → new ≡ height_of q ds
hidden-again None ds q old new e f = f ∙ e
hidden-again (Some text) ds q old new e f = f ∙ height-same text q (bytes_eq text q) refl ds old e

some-first : (b : Bool) (n : ℕ) (o : Option ℕ) → b ≡ true → is_some (cond b (Some n) o) ≡ true
some-first b n o e = rw e refl

-- the label of the innermost has a height
innermost : (p : Places) (d : Option (List ℕ)) (ds : List (Option (List ℕ)))
    → ((q : List ℕ) → place_in p q ≡ height_of q (d ∷ ds)) → IsNamedIn p d
innermost p None ds h = tt
innermost p (Some text) ds h =
    ap (λ (o : Option ℕ). is_some o) (h text) ∙ some-first (bytes_eq text text) (length ds) (height_of text ds)
    (equal-text text)

pub left : (d : Option (List ℕ)) (ds : List (Option (List ℕ))) (old new : Labels) (x : Open) → IsLabels (d ∷ ds) old
    → old.open.items ≡ new.open.items ++ x ∷ []
    → (IsNamedIn old.heights (text_of x.label) → (q : List ℕ)
    → place_in new.heights q ≡ cond (is_named q (text_of x.label)) x.hidden (place_in old.heights q))
    → IsLabels ds new
left d ds old new x w e h =
    let g = last-same (map kept_of new.open.items) (opened ds) (kept_of x) (d, hidden_by d ds)
    (sym (map-append kept_of new.open.items (x ∷ [])) ∙ ap (λ (z : List Open). map kept_of z) (sym e) ∙ w.open_ones) in
    let label : text_of x.label ≡ d = ap (λ (p : Option (List ℕ) × Option ℕ). p.0) g.1 in
    let hidden : x.hidden ≡ hidden_by d ds = ap (λ (p : Option (List ℕ) × Option ℕ). p.1) g.1 in
    let named : IsNamedIn old.heights (text_of x.label) =
    subst (λ (z : Option (List ℕ)). IsNamedIn old.heights z) (sym label) (innermost old.heights d ds w.heights) in
    record {
      heights = λ q. hidden-again d ds q (place_in old.heights q) (place_in new.heights q) (w.heights q)
          (h named q ∙ ap (λ (z : Option (List ℕ)). cond (is_named q z) x.hidden (place_in old.heights q)) label
          ∙ ap (λ (o : Option ℕ). cond (is_named q d) o (place_in old.heights q)) hidden);
      open_ones = g.0;
    }

pub none-left : (d : Option (List ℕ)) (ds : List (Option (List ℕ))) (old : Labels) → IsLabels (d ∷ ds) old
    → length old.open.items ≡ 0 → ⊥
none-left d ds old w e = omega (arith, e, same-length (d ∷ ds) old w)

-- where none is open, none ends
pub none-ends : (old : Labels) (rest : List Open) (x : Open) → IsLabels [] old → old.open.items ≡ rest ++ x ∷ [] → ⊥
none-ends old rest x w e =
    let same : length old.open.items ≡ length (rest ++ x ∷ []) = ap (λ (z : List Open). length z) e in
    omega (arith, same, length-append rest (x ∷ []), same-length [] old w)

pub kept-none : (old : Labels) (rest : List Open) → IsLabels [] old → old.open.items ≡ rest ++ []
    → map kept_of rest ≡ []
kept-none old rest w e =
    ap (λ (z : List Open). map kept_of z) (sym (e ∙ append-nil rest)) ∙ w.open_ones
