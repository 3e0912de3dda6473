use Rattle.wc_binary.proofs.reading.ahead.FrontItems.{func-found}
use Rattle.wc_binary.proofs.decoder.externals.func_front.Goals as goal

pub returns : goal.returns
returns c = func-found _ _ _ c.in_ok-kind.ensures.cases.0 c.if-kind-ne0.false _ c.u32_front.ensures
