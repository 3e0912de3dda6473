-- How a row keeps the places of its bodies: most of them in short, and the others on their own, in the same order.
use Rattle.std.specs.Prelude.{◌≡◌, ◌==◌, ◌-◌, ◌^◌, if◌then◌else◌, List, [], ◌∷◌, map, Option, Some, None}
use Rattle.wc_body.specs.declared.kept.place.Place.{Place}
use Rattle.wc_body.specs.declared.kept.place.ShortPlace.{ShortPlace}

-- the place of so small a body, which sets no global
abbrev pub small : ShortPlace → Place
small p = record {
  size = p.size;
  own = record { locals = p.locals; set_globals = 0; lowest_set_global = 2 ^ 32 - 1 };
}

-- the place that is kept in short, unless this is the mark that it stands elsewhere
abbrev pub told : ShortPlace → Option Place
told p = if p.size == 65535 then None else Some (small p)

-- these places, where those that are missing are the others, in order
abbrev pub filled : List (Option Place) → List Place → List Place
filled [] others = []
filled (Some p ∷ ps) others = p ∷ filled ps others
filled (None ∷ ps) [] = []
filled (None ∷ ps) (o ∷ others) = o ∷ filled ps others

-- as many are missing as there are others
abbrev pub AreMissing : List (Option Place) → List Place → Type 0
AreMissing [] others = others ≡ []
AreMissing (Some p ∷ ps) others = AreMissing ps others
AreMissing (None ∷ ps) [] = ⊥
AreMissing (None ∷ ps) (o ∷ others) = AreMissing ps others

-- the places of a row
abbrev pub places_of : List ShortPlace → List Place → List Place
places_of shorts others = filled (map told shorts) others

-- the others are those that the short places don't tell
abbrev pub AreOthers : List ShortPlace → List Place → Type 0
AreOthers shorts others = AreMissing (map told shorts) others
