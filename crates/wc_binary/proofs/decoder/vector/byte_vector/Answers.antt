use Rattle.wc_binary.specs.Standard.Values.{u32, vector, times, any_byte}
use Rattle.wc_binary.proofs.reading.Behind.{then-gives}
use Rattle.wc_binary.proofs.decoder.vector.byte_vector.Goals as goal

pub returns : goal.returns
unfolding vector
returns g c =
    then-gives u32 (λ n. times n any_byte) _ _ _ c.in_ok-count.count c.in_ok-count.ensures c.bytes.result
    c.bytes.ensures.gives
