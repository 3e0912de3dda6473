use Rattle.std.proofs.Common.{◌≡◌, length, arith}
use Rattle.wc_surface.specs.Standard.Marks.{drafted}
use Rattle.wc_surface.specs.Kept.Building.{part_in}
use Rattle.wc_body.proofs.Drafts.BuildingLemmas.{building-whole}
use Rattle.wc_surface.proofs.code_builder.CodeBuilder.finish.Goals as goal

pub from_row-requires : goal.from_row-requires
from_row-requires c =
    let z : length (drafted c.self.inside.row.items).around ≡ 0 = rw c.self.view_is (omega arith) in
    rw c.as_slice.ensures.value (building-whole part_in _ _ c.self.invariant.building z).0

pub returns-clause-ok : goal.returns-clause-ok
returns-clause-ok c =
    let z : length (drafted c.self.inside.row.items).around ≡ 0 = rw c.self.view_is (omega arith) in
    rw (← c.self.view_is, c.in_ok-code.ensures, c.as_slice.ensures.value)
    ((building-whole part_in _ _ c.self.invariant.building z).1)
