use Rattle.wc_binary.specs.Standard.Values.{u32, vector, times}
use Rattle.wc_binary.specs.Standard.Contents.{code}
use Rattle.wc_binary.proofs.reading.Behind.{then-gives}
use Rattle.wc_binary.proofs.decoder.code.CodesFromSource.read.Goals as goal

pub returns : goal.returns
unfolding vector
returns g c =
    then-gives u32 (λ n. times n code) _ _ _ c.in_ok-count.count c.in_ok-count.ensures c.codes.result c.codes.ensures
