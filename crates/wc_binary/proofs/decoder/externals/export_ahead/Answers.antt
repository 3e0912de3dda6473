use Rattle.std.proofs.Common.{◌≡◌, arith}
use Rattle.wc_binary.specs.Standard.Externals.{export}
use Rattle.wc_binary.proofs.reading.ahead.FrontItems.{first-passed}
use Rattle.wc_binary.proofs.decoder.externals.export_ahead.Goals as goal

pub returns : goal.returns
returns g c =
    let adds = rw c.in-Some.is at c.in_ok-count.ensures.ok in
    let all : c.pass.result ≡ c.in-Some.count = omega (arith, c.pass.ensures.amount, c.front.ensures.amount, adds.3) in
    (adds.0, first-passed export _ _ _ _ _ _ c.front.ensures.ahead adds (rw all at c.pass.ensures.passed), adds.4)
