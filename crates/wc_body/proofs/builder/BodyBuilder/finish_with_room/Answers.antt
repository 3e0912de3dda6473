use Rattle.std.proofs.Common.{◌≡◌, length, arith}
use Rattle.wc_body.specs.Standard.Entries.{drafted}
use Rattle.wc_body.specs.Drafting.OpenParts.{part_in}
use Rattle.wc_body.specs.Reading.Unpacked.{unpacked}
use Rattle.wc_body.proofs.Drafts.BuildingLemmas.{building-whole}
use Rattle.wc_body.proofs.Drafts.Finished.{started-body}
use Rattle.wc_body.proofs.builder.BodyBuilder.finish_with_room.Goals as goal

pub from_bytes-requires : goal.from_bytes-requires
from_bytes-requires c =
    let z : length (drafted (unpacked c.self.inside.bytes.items)).around ≡ 0 = rw c.self.view_is (omega arith) in
    started-body _ _ _ _ c.self.invariant z

pub returns-clause-ok : goal.returns-clause-ok
returns-clause-ok c =
    let z : length (drafted (unpacked c.self.inside.bytes.items)).around ≡ 0 = rw c.self.view_is (omega arith) in
    rw (← c.self.view_is, c.from_bytes.ensures)
    ((building-whole part_in _ _ c.self.invariant.building z).1)
