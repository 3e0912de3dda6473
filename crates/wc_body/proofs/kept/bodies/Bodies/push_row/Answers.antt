use Rattle.std.proofs.Common.{◌≡◌, [], ◌∷◌, ◌++◌, Some, None, ap, refl, ◌∙◌}
use Rattle.wc_body.specs.declared.needs.OwnNeeds.{OwnNeeds}
use Rattle.wc_body.specs.declared.kept.place.ShortPlace.{ShortPlace}
use Rattle.wc_body.specs.Drafting.Places.{told}
use Rattle.wc_body.proofs.Packing.PlaceLemmas.{placed-short, placed-other}
use Rattle.wc_body.proofs.Packing.BodyRowLemmas.{place, Added, body-added}
use Rattle.wc_body.proofs.kept.bodies.Bodies.push_row.Goals as goal
use Rattle.wc_body.proofs.kept.bodies.Bodies.push_row.Goals.{then-is_none+in_ok-reserve-2, else-is_none, in-Some}
use Rattle.wc_body.proofs.kept.bodies.Bodies.push_row.Goals.{in-None}

-- room was made, and nothing was put there
record Reserved (c : goal.After-self-1) : Type 0 where
  bytes : c.if-is_none.self-inside.bytes.items ≡ c.self.inside.bytes.items
  places : c.if-is_none.self-inside.places.items ≡ c.self.inside.places.items
  others : c.if-is_none.self-inside.others.items ≡ c.self.inside.others.items
  needs : c.if-is_none.self-inside.needs ≡ c.self.inside.needs

reserved : (c : goal.After-self-1) → Reserved c
reserved c =
    elim c.if-is_none.branch [
      | then-is_none+in_ok-reserve-2 w ↦ record {
        bytes = rw w.self-inside-is refl;
        places = rw w.self-inside-is c.in_ok-reserve.ensures.items;
        others = rw w.self-inside-is w.in_ok-reserve-2.ensures.items;
        needs = rw w.self-inside-is refl;
      }
      | else-is_none w ↦ record {
        bytes = rw w.self-inside-is refl;
        places = rw w.self-inside-is c.in_ok-reserve.ensures.items;
        others = rw w.self-inside-is refl;
        needs = rw w.self-inside-is refl;
      }
    ]

added-short : (c : goal.After-self-1) (short : ShortPlace)
    → told short ≡ Some (place c.args.bytes.now c.own.result)
    → Added c.self.inside.places.items (c.self.inside.places.items ++ short ∷ []) c.self.inside.others.items
    c.self.inside.others.items c.self.inside.bytes.items c.args.bytes.now c.self.inside.needs c.args.needs
added-short c short is =
    let at = placed-short c.self.inside.places.items short c.self.inside.others.items _ c.self.invariant.0
    (is ∙ ap (λ (own : OwnNeeds). Some (place c.args.bytes.now own)) c.own.ensures) in
    body-added _ _ _ _ c.self.inside.bytes.items c.args.bytes.now c.self.inside.needs c.args.needs c.self.invariant.1
    c.requires at

added-other : (c : goal.After-self-1) (mark : ShortPlace) → told mark ≡ None
    → Added c.self.inside.places.items (c.self.inside.places.items ++ mark ∷ []) c.self.inside.others.items
    (c.self.inside.others.items ++ place c.args.bytes.now c.own.result ∷ []) c.self.inside.bytes.items
    c.args.bytes.now c.self.inside.needs c.args.needs
added-other c mark is =
    let at = placed-other c.self.inside.places.items mark c.self.inside.others.items _ c.self.invariant.0 is in
    rw c.own.ensures
    (body-added _ _ _ _ c.self.inside.bytes.items c.args.bytes.now c.self.inside.needs c.args.needs
    c.self.invariant.1 c.requires at)

pub invariant_of-self-2 : goal.invariant_of-self-2
invariant_of-self-2 c =
    let r = reserved c in
    elim c.match-short.branch [
      | in-Some w ↦
          rw (
            c.joined-self-inside.ensures,
            w.self-inside-is,
            w.push_reserved.ensures.items,
            c.in_ok-extend_from_slice.ensures.items,
            r.bytes,
            r.places,
            r.others,
            r.needs,
          )
          (added-short c w.in-Some.short (rw w.in-Some.is at c.of-short.ensures)).kept
      | in-None w ↦
          rw (
            c.joined-self-inside.ensures,
            w.self-inside-is,
            w.push_reserved-in-None.ensures.items,
            w.push_reserved-in-None-2.ensures.items,
            c.in_ok-extend_from_slice.ensures.items,
            r.bytes,
            r.places,
            r.others,
            r.needs,
          )
          (added-other c w.elsewhere.result w.elsewhere.ensures).kept
    ]

pub returns-clause-ok : goal.returns-clause-ok
returns-clause-ok c =
    let r = reserved c in
    elim c.match-short.branch [
      | in-Some w ↦
          rw (
            ← c.self.view_is,
            w.self-inside-is,
            w.push_reserved.ensures.items,
            c.in_ok-extend_from_slice.ensures.items,
            r.bytes,
            r.places,
            r.others,
          )
          (added-short c w.in-Some.short (rw w.in-Some.is at c.of-short.ensures)).seen
      | in-None w ↦
          rw (
            ← c.self.view_is,
            w.self-inside-is,
            w.push_reserved-in-None.ensures.items,
            w.push_reserved-in-None-2.ensures.items,
            c.in_ok-extend_from_slice.ensures.items,
            r.bytes,
            r.places,
            r.others,
          )
          (added-other c w.elsewhere.result w.elsewhere.ensures).seen
    ]
