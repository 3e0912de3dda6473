use Rattle.std.proofs.Common.{◌≡◌, ℕ, ◌+◌, ◌-◌, true, length, sym, ap, ◌∙◌, arith}
use Rattle.wc_body.specs.Standard.Draft.{Draft, is_open}
use Rattle.wc_body.proofs.Drafts.BuildingLemmas.{depth-is, open_where}
use Rattle.wc_surface.specs.declared.instr.TextInstr.{TextInstr}
use Rattle.wc_surface.specs.Standard.Marks.{drafted}
use Rattle.wc_surface.specs.Kept.Building.{part_in}
use Rattle.wc_surface.proofs.DraftLemmas.{end-pushed, else-last}
use Rattle.wc_surface.proofs.code_builder.CodeBuilder.end.Goals as goal

pub put_end-requires : goal.put_end-requires
put_end-requires c after = else-last c.self.inside.row.items (sym c.self.invariant.last ∙ after)

pub invariant_of-self-2 : goal.invariant_of-self-2
invariant_of-self-2 c =
    let x = c.self.inside.row.items in
    let open_ : is_open (drafted x).around ≡ true = rw c.self.view_is (open_where _ (omega arith)) in
    let last : c.self.inside.parts.len - 1 + 1 ≡ length c.self.inside.parts.items = omega (
      arith,
      c.self.inside.parts.ok.0,
      depth-is part_in _ _ c.self.invariant.building,
      ap (λ (d : Draft TextInstr ℕ). length d.around) c.self.view_is,
    ) in
    rw c.pop.ensures.rest
    (end-pushed x c.self.inside.parts.items c.self.inside.after_else c.self.invariant c.put_end.new.row.items
    (c.self.inside.parts.len - 1) c.in_ok-put_end.ensures.ok open_ last).started

pub returns-clause-ok : goal.returns-clause-ok
returns-clause-ok c =
    let x = c.self.inside.row.items in
    let open_ : is_open (drafted x).around ≡ true = rw c.self.view_is (open_where _ (omega arith)) in
    let last : c.self.inside.parts.len - 1 + 1 ≡ length c.self.inside.parts.items = omega (
      arith,
      c.self.inside.parts.ok.0,
      depth-is part_in _ _ c.self.invariant.building,
      ap (λ (d : Draft TextInstr ℕ). length d.around) c.self.view_is,
    ) in
    rw (← c.self.view_is)
    (end-pushed x c.self.inside.parts.items c.self.inside.after_else c.self.invariant c.put_end.new.row.items
    (c.self.inside.parts.len - 1) c.in_ok-put_end.ensures.ok open_ last).drafted
