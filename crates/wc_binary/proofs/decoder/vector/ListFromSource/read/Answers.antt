use Rattle.wc_binary.specs.Standard.Values.{u32, vector, times}
use Rattle.wc_binary.proofs.reading.Behind.{then-gives}
use Rattle.wc_binary.proofs.decoder.vector.ListFromSource.read.Goals as goal

pub returns : goal.returns
unfolding vector
returns g c =
    then-gives u32 (λ n. times n g.V.FromSource.phrase) _ _ _ c.in_ok-count.count c.in_ok-count.ensures c.times.result
    c.times.ensures.gives
