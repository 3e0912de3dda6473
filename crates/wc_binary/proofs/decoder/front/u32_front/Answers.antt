use Rattle.wc_binary.proofs.reading.ahead.FrontItems.{short-begins}
use Rattle.wc_binary.proofs.decoder.front.u32_front.Goals as goal

pub returns : goal.returns
returns c =
    rw c.from.ensures (short-begins _ _ _ c.in_ok-first.ensures.cases.0 c.if-first-ge128.false)
