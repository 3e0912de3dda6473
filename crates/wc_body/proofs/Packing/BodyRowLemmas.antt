-- Rows of bodies.
use Rattle.std.proofs.Common.{◌≡◌, ℕ, suc, List, [], ◌∷◌, ◌++◌, length, take, drop, refl, sym, ap, ◌∙◌, arith}
use Rattle.std.proofs.lemmas.List.{take-append-le, drop-append-le, length-append}
use Rattle.std.proofs.Math.Seq.{take-length, drop-length}
use Rattle.wc_body.specs.declared.kept.place.Place.{Place}
use Rattle.wc_body.specs.declared.needs.Needs.{Needs}
use Rattle.wc_body.specs.declared.instr.BlockType.{BlockType}
use Rattle.wc_body.specs.declared.instr.Instr.{Instr}
use Rattle.wc_body.specs.Standard.Nested.{Code}
use Rattle.wc_body.specs.Standard.Entries.{nested}
use Rattle.wc_body.specs.Reading.Unpacked.{unpacked}
use Rattle.wc_body.specs.Drafting.PackedBody.{IsBody}
use Rattle.wc_body.specs.declared.needs.OwnNeeds.{OwnNeeds}
use Rattle.wc_body.specs.Standard.Needed.{nothing, needs_of, own_of, joined, with_bodies}
use Rattle.wc_body.specs.declared.kept.place.ShortPlace.{ShortPlace}
use Rattle.wc_body.specs.Drafting.Places.{places_of, AreOthers}
use Rattle.wc_body.specs.Drafting.BodyRow.{bodies_at, IsBodyOf, AreBodies, IsRow}
use Rattle.wc_body.proofs.Packing.PlaceLemmas.{Placed}

-- there are as many bodies as places
pub bodies-count : (ps : List Place) (x : List ℕ) → length (bodies_at ps x) ≡ length ps
bodies-count [] x = refl
bodies-count (p ∷ ps) x = ap (λ n. suc n) (bodies-count ps (drop p.size x))

-- the same body, and what it needs of a function
pub own-body : (x : List ℕ) (needs : Needs) → IsBody x needs → IsBodyOf x (own_of needs)
own-body x needs is = record { packed = is.packed; whole = is.whole; needed = ap own_of is.needed }

-- one more body
with-one-more : (s : Needs) (cs : List (Code Instr BlockType)) (c : Code Instr BlockType)
    → with_bodies s (cs ++ c ∷ []) ≡ joined (with_bodies s cs) (needs_of c)
with-one-more s [] c = refl
with-one-more s (d ∷ cs) c = with-one-more (joined s (needs_of d)) cs c

-- the place of a body of these bytes
abbrev pub place : List ℕ → OwnNeeds → Place
place y own = record { size = length y; own = own }

record Behind (ps : List Place) (x y : List ℕ) (own : OwnNeeds) : Type 0 where
  kept : AreBodies (ps ++ place y own ∷ []) (x ++ y)
  seen : bodies_at (ps ++ place y own ∷ []) (x ++ y) ≡ bodies_at ps x ++ nested (unpacked y) ∷ []

behind : (ps : List Place) (x y : List ℕ) (own : OwnNeeds) → AreBodies ps x → IsBodyOf y own → Behind ps x y own
behind [] x y own are is = rw are (record {
  kept = (omega arith, rw (take-length y) is, drop-length y);
  seen = rw (take-length y) refl;
})
behind (p ∷ ps) x y own are is =
    let rest = behind ps (drop p.size x) y own are.2 is in
    let first = take-append-le p.size x y are.0 in
    let left = drop-append-le p.size x y are.0 in
    record {
      kept = (omega (arith, are.0, length-append x y), rw first are.1, rw left rest.kept);
      seen = rw (first, left)
          (ap (λ (cs : List (Code Instr BlockType)). nested (unpacked (take p.size x)) ∷ cs) rest.seen);
    }

pub record Pushed (ps : List Place) (x y : List ℕ) (all needs : Needs) : Type 0 where
  pub kept : IsRow (ps ++ place y (own_of needs) ∷ []) (x ++ y) (joined all needs)
  pub seen : bodies_at (ps ++ place y (own_of needs) ∷ []) (x ++ y) ≡ bodies_at ps x ++ nested (unpacked y) ∷ []

pub body-pushed : (ps : List Place) (x y : List ℕ) (all needs : Needs) → IsRow ps x all → IsBody y needs
    → Pushed ps x y all needs
body-pushed ps x y all needs row is =
    let it = behind ps x y (own_of needs) row.bodies (own-body y needs is) in
    record {
      kept = record {
        bodies = it.kept;
        needed =
            ap (λ n. joined n needs) row.needed
            ∙ ap (λ n. joined (with_bodies nothing (bodies_at ps x)) n) is.needed
            ∙ sym (with-one-more nothing (bodies_at ps x) (nested (unpacked y)))
            ∙ ap (λ cs. with_bodies nothing cs) (sym it.seen);
      };
      seen = it.seen;
    }

-- the row has grown by a body, whose place is kept behind the others
pub record Added (ps qs : List ShortPlace) (os more : List Place) (x y : List ℕ) (all needs : Needs) : Type 0 where
  pub kept : AreOthers qs more × IsRow (places_of qs more) (x ++ y) (joined all needs)
  pub seen : bodies_at (places_of qs more) (x ++ y) ≡ bodies_at (places_of ps os) x ++ nested (unpacked y) ∷ []

pub body-added : (ps qs : List ShortPlace) (os more : List Place) (x y : List ℕ) (all needs : Needs)
    → IsRow (places_of ps os) x all → IsBody y needs → Placed ps qs os more (place y (own_of needs))
    → Added ps qs os more x y all needs
body-added ps qs os more x y all needs row is at =
    let it = body-pushed (places_of ps os) x y all needs row is in
    record { kept = (at.others, rw at.seen it.kept); seen = rw at.seen it.seen }
