use Rattle.wc_binary.specs.Standard.Values.{u32, vector, times}
use Rattle.wc_binary.specs.Standard.Externals.{import}
use Rattle.wc_binary.proofs.reading.Behind.{then-gives}
use Rattle.wc_binary.proofs.decoder.externals.ImportsFromSource.read.Goals as goal

pub returns : goal.returns
unfolding vector
returns g c =
    then-gives u32 (λ n. times n import) _ _ _ c.in_ok-count.count c.in_ok-count.ensures c.imports.result
    c.imports.ensures
