use Rattle.std.proofs.Common.{refl}
use Rattle.wc_print.proofs.Writing.Flowing.{begun}
use Rattle.wc_print.proofs.outlet.Outlet.new.Goals as goal

pub returns-clause-begun : goal.returns-clause-begun
returns-clause-begun g c = begun g.W.Write.contents _ c.requires.writer refl c.requires.none
