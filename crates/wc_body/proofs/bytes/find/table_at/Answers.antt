use Rattle.std.proofs.Common.{sym}
use Rattle.wc_body.proofs.Packing.Integers.{labels-all}
use Rattle.wc_body.proofs.bytes.find.table_at.Goals as goal

pub from_items-labels-requires : goal.from_items-labels-requires
from_items-labels-requires c =
    labels-all c.in_ok-count.count c.in_ok-count.labels.now c.in_ok-behind.behind.now
    (sym (rw c.in_ok-behind.was at c.behind_labels.ensures))
