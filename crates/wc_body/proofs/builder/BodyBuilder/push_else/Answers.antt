use Rattle.std.proofs.Common.{◌≡◌, ◌+◌, ◌-◌, true, length, sym, ◌∙◌, arith}
use Rattle.wc_body.specs.Standard.Draft.{in_first_part}
use Rattle.wc_body.specs.Standard.Entries.{drafted}
use Rattle.wc_body.specs.Drafting.OpenParts.{part_in}
use Rattle.wc_body.specs.Reading.Unpacked.{unpacked}
use Rattle.wc_body.proofs.Drafts.BuildingLemmas.{depth-is, first_part_open}
use Rattle.wc_body.proofs.Drafts.BuilderLemmas.{else-pushed}
use Rattle.wc_body.proofs.builder.BodyBuilder.push_else.Goals as goal

pub invariant_of-self-2 : goal.invariant_of-self-2
invariant_of-self-2 c =
    let x = c.self.inside.bytes.items in
    let can : in_first_part (drafted (unpacked x)).around ≡ true =
    rw c.self.view_is (sym c.in_first_part.ensures ∙ c.if-not-in_first_part.false) in
    let last : c.len-at.result - 1 + 1 ≡ length c.self.inside.parts.items = omega (
      arith,
      c.self.inside.parts.ok.0,
      depth-is part_in _ _ c.self.invariant.building,
      first_part_open _ can,
    ) in
    (else-pushed x c.self.inside.parts.items c.self.inside.after_else c.self.inside.needs c.self.invariant
    c.push.new.self.items
    (c.len-at.result - 1) c.in_ok-push.ensures.items can last).started

pub returns-clause-ok : goal.returns-clause-ok
returns-clause-ok c =
    let x = c.self.inside.bytes.items in
    let can : in_first_part (drafted (unpacked x)).around ≡ true =
    rw c.self.view_is (sym c.in_first_part.ensures ∙ c.if-not-in_first_part.false) in
    let last : c.len-at.result - 1 + 1 ≡ length c.self.inside.parts.items = omega (
      arith,
      c.self.inside.parts.ok.0,
      depth-is part_in _ _ c.self.invariant.building,
      first_part_open _ can,
    ) in
    rw (← c.self.view_is)
    (else-pushed x c.self.inside.parts.items c.self.inside.after_else c.self.inside.needs c.self.invariant
    c.push.new.self.items
    (c.len-at.result - 1) c.in_ok-push.ensures.items can last).drafted
