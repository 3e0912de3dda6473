use Rattle.std.proofs.Common.{◌-◌, refl}
use Rattle.wc_binary.proofs.reading.ahead.FrontCode.{begins-bare}
use Rattle.wc_binary.proofs.decoder.code.bare_body.Goals as goal

pub returns : goal.returns
returns c =
    begins-bare _ _ _ _ _ _ (c.in_ok-size.size.now - 1) c.in_ok-size.ensures.cases.0 c.in_ok-groups.ensures.cases.0
    c.if-size-eq0.false c.if-size-ge128.false c.if-groups-ne0.false refl c.if-rest-count.false refl
