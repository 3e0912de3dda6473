use Rattle.std.proofs.Common.{sym}
use Rattle.wc_binary.proofs.reading.ahead.FrontItems.{kind-begins}
use Rattle.wc_binary.proofs.decoder.externals.kind_front.Goals as goal

pub returns-in-Ok : goal.returns-in-Ok
returns-in-Ok c = kind-begins _ _ _ _ c.in_ok-byte.ensures.cases.0 (sym c.in-Ok.ensures)
