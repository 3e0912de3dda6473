use Rattle.std.proofs.Common.{◌≡◌, ◌+◌, ◌-◌, true, length, sym, ap, ◌∙◌, arith}
use Rattle.wc_body.specs.declared.instr.BlockType.{BlockType}
use Rattle.wc_body.specs.declared.instr.Instr.{Instr}
use Rattle.wc_body.specs.Standard.Draft.{Draft, is_open}
use Rattle.wc_body.specs.Standard.Entries.{drafted}
use Rattle.wc_body.specs.Drafting.OpenParts.{part_in}
use Rattle.wc_body.specs.Reading.Unpacked.{unpacked}
use Rattle.wc_body.proofs.Drafts.BuildingLemmas.{depth-is, open_where}
use Rattle.wc_body.proofs.Drafts.BuilderLemmas.{end-pushed}
use Rattle.wc_body.proofs.Packing.PackedLemmas.{else-last}
use Rattle.wc_body.proofs.builder.BodyBuilder.push_end.Goals as goal

pub put_end-requires : goal.put_end-requires
put_end-requires c after =
    else-last c.self.inside.bytes.items c.self.invariant.packed (sym c.self.invariant.last ∙ after)

pub invariant_of-self-2 : goal.invariant_of-self-2
invariant_of-self-2 c =
    let x = c.self.inside.bytes.items in
    let open_ : is_open (drafted (unpacked x)).around ≡ true = rw c.self.view_is (open_where _ (omega arith)) in
    let last : c.self.inside.parts.len - 1 + 1 ≡ length c.self.inside.parts.items = omega (
      arith,
      c.self.inside.parts.ok.0,
      depth-is part_in _ _ c.self.invariant.building,
      ap (λ (d : Draft Instr BlockType). length d.around) c.self.view_is,
    ) in
    rw c.pop.ensures.rest
    (end-pushed x c.self.inside.parts.items c.self.inside.after_else c.self.inside.needs c.self.invariant
    c.put_end.new.bytes.items
    (c.self.inside.parts.len - 1) c.in_ok-put_end.ensures.ok open_ last).started

pub returns-clause-ok : goal.returns-clause-ok
returns-clause-ok c =
    let x = c.self.inside.bytes.items in
    let open_ : is_open (drafted (unpacked x)).around ≡ true = rw c.self.view_is (open_where _ (omega arith)) in
    let last : c.self.inside.parts.len - 1 + 1 ≡ length c.self.inside.parts.items = omega (
      arith,
      c.self.inside.parts.ok.0,
      depth-is part_in _ _ c.self.invariant.building,
      ap (λ (d : Draft Instr BlockType). length d.around) c.self.view_is,
    ) in
    rw (← c.self.view_is)
    (end-pushed x c.self.inside.parts.items c.self.inside.after_else c.self.inside.needs c.self.invariant
    c.put_end.new.bytes.items
    (c.self.inside.parts.len - 1) c.in_ok-put_end.ensures.ok open_ last).drafted
