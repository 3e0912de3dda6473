use Rattle.std.proofs.Common.{sym, ◌∙◌}
use Rattle.wc_body.specs.Drafting.Places.{places_of}
use Rattle.wc_body.proofs.Packing.PlaceLemmas.{places-count}
use Rattle.wc_body.proofs.Packing.BodyRowLemmas.{bodies-count}
use Rattle.wc_body.proofs.kept.bodies.Bodies.len.Goals as goal

pub returns : goal.returns
returns c =
    let shorts = c.self.inside.places.items in
    let others = c.self.inside.others.items in
    rw (← c.self.view_is)
    (c.len.ensures
    ∙ c.self.inside.places.ok.0
    ∙ sym (places-count shorts others c.self.invariant.0)
    ∙ sym (bodies-count (places_of shorts others) c.self.inside.bytes.items))
