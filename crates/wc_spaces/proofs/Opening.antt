-- Labels of one more, or of one less, that is open.
use Rattle.std.proofs.Common.{◌≡◌, ℕ, suc, ◌+◌, ◌-◌, Bool, true, false, cond, List, [], ◌∷◌, ◌++◌, length, map, Option}
use Rattle.std.proofs.Common.{Some, None, refl, sym, ap, ◌∙◌, arith, length-append}
use Rattle.std.proofs.lemmas.List.{map-append}
use Rattle.std.specs.Borrow.{Bor}
use Rattle.std.specs.List.{position_from}
use Rattle.wc_spaces.specs.declared.labels.Open.{Open}
use Rattle.wc_spaces.specs.declared.labels.Labels.{Labels}
use Rattle.wc_spaces.specs.declared.places.Places.{Places}
use Rattle.wc_spaces.specs.Kept.Labels.{height_of, hidden_by, hidden_in, opened, kept_of, IsLabels}
use Rattle.wc_spaces.specs.Kept.Places.{place_in, text_of}
use Rattle.wc_spaces.specs.Standard.Spaces.{is_named, place_of}

length-opened : (ds : List (Option (List ℕ))) → length (opened ds) ≡ length ds
length-opened [] = refl
length-opened (d ∷ ds) = length-append (opened ds) _ ∙ omega (arith, length-opened ds)

length-kept : (os : List Open) → length (map kept_of os) ≡ length os
length-kept [] = refl
length-kept (o ∷ os) = ap (λ n. suc n) (length-kept os)

-- as many are kept as are open
pub same-length : (ds : List (Option (List ℕ))) (l : Labels) → IsLabels ds l → length l.open.items ≡ length ds
same-length ds l w = sym (length-kept l.open.items)
    ∙ ap (λ (z : List (Option (List ℕ) × Option ℕ)). length z) w.open_ones ∙ length-opened ds

-- the place of a label, from its height
abbrev pub from_top : ℕ → Option ℕ → Option ℕ
from_top n None = None
from_top n (Some h) = Some (n - 1 - h)

position-height : (b : Bool) (i n : ℕ) (o p : Option ℕ) → o ≡ from_top (i + (n + 1)) p
    → cond b (Some i) o ≡ from_top (i + (n + 1)) (cond b (Some n) p)
position-height true i n o p e = ap (λ (k : ℕ). Some k) (omega arith)
position-height false i n o p e = e

place-from : (q : List ℕ) (i n : ℕ) (ds : List (Option (List ℕ))) → n ≡ i + length ds
    → position_from (is_named q) i ds ≡ from_top n (height_of q ds)
place-from q i n [] e = refl
place-from q i n (d ∷ ds) e =
    let m : i + (length ds + 1) ≡ n = omega (arith, e) in
    rw (sym m) (position-height (is_named q d) i (length ds) _ _
    (place-from q (i + 1) (i + (length ds + 1)) ds (omega arith)))

pub place-from_height : (q : List ℕ) (ds : List (Option (List ℕ))) (l : Labels) (n : ℕ) (o : Option ℕ) → IsLabels ds l
    → n ≡ length l.open.items → o ≡ place_in l.heights q
    → place_of q ds ≡ from_top n o
place-from_height q ds l n o w e f =
    let same : n ≡ length ds = e ∙ same-length ds l w in
    rw same (place-from q 0 (length ds) ds (omega arith)
    ∙ ap (λ (p : Option ℕ). from_top (length ds) p) (sym (f ∙ w.heights q)))

hidden-same : (p : Places) (d : Option (List ℕ)) (ds : List (Option (List ℕ)))
    → ((q : List ℕ) → place_in p q ≡ height_of q ds) → hidden_in p d ≡ hidden_by d ds
hidden-same p None ds h = refl
hidden-same p (Some text) ds h = h text

pub entered : (ds : List (Option (List ℕ))) (old new : Labels) (d : Option (Bor (List ℕ))) (hidden : Option ℕ) (n : ℕ)
    → IsLabels ds old
    → n ≡ length old.open.items
    → hidden ≡ hidden_in old.heights (text_of d)
    → ((q : List ℕ) → place_in new.heights q ≡ cond (is_named q (text_of d)) (Some n) (place_in old.heights q))
    → new.open.items ≡ old.open.items ++ record { label = d; hidden = hidden } ∷ []
    → IsLabels (text_of d ∷ ds) new
entered ds old new d hidden n w size e h f =
    let same : n ≡ length ds = size ∙ same-length ds old w in
    record {
      heights = λ q. h q ∙ ap (λ (k : ℕ). cond (is_named q (text_of d)) (Some k) (place_in old.heights q)) same
          ∙ ap (λ (o : Option ℕ). cond (is_named q (text_of d)) (Some (length ds)) o) (w.heights q);
      open_ones = ap (λ (z : List Open). map kept_of z) f
          ∙ map-append kept_of old.open.items (record { label = d; hidden = hidden } ∷ [])
          ∙ ap (λ (z : List (Option (List ℕ) × Option ℕ)). z ++ (text_of d, hidden) ∷ []) w.open_ones
          ∙ ap (λ (o : Option ℕ). opened ds ++ (text_of d, o) ∷ []) (e
          ∙ hidden-same old.heights (text_of d) ds w.heights);
    }
