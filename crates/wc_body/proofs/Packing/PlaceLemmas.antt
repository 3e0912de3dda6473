-- Places in short, and the others.
use Rattle.std.proofs.Common.{◌≡◌, suc, List, [], ◌∷◌, ◌++◌, length, map, Option, Some, None, refl, ap, ◌∙◌}
use Rattle.std.proofs.lemmas.List.{map-append, length-map}
use Rattle.wc_body.specs.declared.kept.place.Place.{Place}
use Rattle.wc_body.specs.declared.kept.place.ShortPlace.{ShortPlace}
use Rattle.wc_body.specs.Drafting.Places.{told, filled, AreMissing, places_of, AreOthers}

filled-count : (ps : List (Option Place)) (os : List Place) → AreMissing ps os → length (filled ps os) ≡ length ps
filled-count [] os are = refl
filled-count (Some p ∷ ps) os are = ap (λ n. suc n) (filled-count ps os are)
filled-count (None ∷ ps) [] are = absurd are
filled-count (None ∷ ps) (o ∷ os) are = ap (λ n. suc n) (filled-count ps os are)

-- there are as many places as short ones
pub places-count : (ps : List ShortPlace) (os : List Place) → AreOthers ps os
    → length (places_of ps os) ≡ length ps
places-count ps os are = filled-count (map told ps) os are ∙ length-map ps told

-- these are one more place behind those
record Grown (ps qs : List (Option Place)) (os more : List Place) (p : Place) : Type 0 where
  missing : AreMissing qs more
  seen : filled qs more ≡ filled ps os ++ p ∷ []

grown-short : (ps : List (Option Place)) (os : List Place) (p : Place) → AreMissing ps os
    → Grown ps (ps ++ Some p ∷ []) os os p
grown-short [] os p are = record { missing = are; seen = refl }
grown-short (Some q ∷ ps) os p are =
    let rest = grown-short ps os p are in
    record { missing = rest.missing; seen = ap (λ (xs : List Place). q ∷ xs) rest.seen }
grown-short (None ∷ ps) [] p are = absurd are
grown-short (None ∷ ps) (o ∷ os) p are =
    let rest = grown-short ps os p are in
    record { missing = rest.missing; seen = ap (λ (xs : List Place). o ∷ xs) rest.seen }

grown-other : (ps : List (Option Place)) (os : List Place) (p : Place) → AreMissing ps os
    → Grown ps (ps ++ None ∷ []) os (os ++ p ∷ []) p
grown-other [] os p are = rw are record { missing = refl; seen = refl }
grown-other (Some q ∷ ps) os p are =
    let rest = grown-other ps os p are in
    record { missing = rest.missing; seen = ap (λ (xs : List Place). q ∷ xs) rest.seen }
grown-other (None ∷ ps) [] p are = absurd are
grown-other (None ∷ ps) (o ∷ os) p are =
    let rest = grown-other ps os p are in
    record { missing = rest.missing; seen = ap (λ (xs : List Place). o ∷ xs) rest.seen }

-- one more place, behind these
pub record Placed (ps qs : List ShortPlace) (os more : List Place) (p : Place) : Type 0 where
  pub others : AreOthers qs more
  pub seen : places_of qs more ≡ places_of ps os ++ p ∷ []

pub placed-short : (ps : List ShortPlace) (short : ShortPlace) (os : List Place) (p : Place) → AreOthers ps os
    → told short ≡ Some p → Placed ps (ps ++ short ∷ []) os os p
placed-short ps short os p are is =
    let it = grown-short (map told ps) os p are in
    record {
      others = rw (map-append told ps (short ∷ []), is) it.missing;
      seen = rw (map-append told ps (short ∷ []), is) it.seen;
    }

pub placed-other : (ps : List ShortPlace) (short : ShortPlace) (os : List Place) (p : Place) → AreOthers ps os
    → told short ≡ None → Placed ps (ps ++ short ∷ []) os (os ++ p ∷ []) p
placed-other ps short os p are is =
    let it = grown-other (map told ps) os p are in
    record {
      others = rw (map-append told ps (short ∷ []), is) it.missing;
      seen = rw (map-append told ps (short ∷ []), is) it.seen;
    }
