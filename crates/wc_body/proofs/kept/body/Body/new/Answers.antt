use Rattle.std.proofs.Common.{◌≡◌, [], length, refl, sym, ap, ◌∙◌}
use Rattle.wc_body.specs.declared.instr.BlockType.{BlockType}
use Rattle.wc_body.specs.declared.instr.Instr.{Instr}
use Rattle.wc_body.specs.Standard.Draft.{Draft}
use Rattle.wc_body.specs.Standard.Entries.{nested, drafted}
use Rattle.wc_body.specs.Standard.Needed.{nothing}
use Rattle.wc_body.specs.Drafting.NeededAlong.{needs_along}
use Rattle.wc_body.specs.Drafting.OpenParts.{part_in}
use Rattle.wc_body.specs.Drafting.PackedBody.{IsBody}
use Rattle.wc_body.specs.Reading.Unpacked.{unpacked}
use Rattle.wc_body.proofs.Drafts.BuilderLemmas.{started-none, drafted-none}
use Rattle.wc_body.proofs.Drafts.BuildingLemmas.{building-whole}
use Rattle.wc_body.proofs.Drafts.NeedsLemmas.{needs-flatten}
use Rattle.wc_body.proofs.kept.body.Body.new.Goals as goal

body-none : IsBody [] nothing
body-none =
    let z : length (drafted (unpacked [])).around ≡ 0 = rw drafted-none refl in
    let whole = (building-whole part_in _ _ started-none.building z).0 in
    record {
      packed = started-none.packed;
      whole = whole;
      needed =
          started-none.needed ∙ ap (λ ms. needs_along nothing 0 ms) (sym whole.whole)
          ∙ needs-flatten (nested (unpacked []));
    }

pub invariant_of-result : goal.invariant_of-result
invariant_of-result c = rw (c.new.ensures.items, c.nothing.ensures) body-none

pub returns : goal.returns
returns c =
    ap (λ x. nested (unpacked x)) c.new.ensures.items ∙ ap (λ (d : Draft Instr BlockType). d.last) drafted-none
