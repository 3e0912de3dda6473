use Rattle.std.proofs.Common.{[], ◌∷◌}
use Rattle.wc_binary.specs.declared.fault.BinWhy.TheVariants.{Magic, Version}
use Rattle.wc_binary.specs.Standard.Values.{exactly}
use Rattle.wc_binary.specs.Standard.Module.{preamble}
use Rattle.wc_binary.proofs.reading.Behind.{then-gives}
use Rattle.wc_binary.proofs.decoder.module.preamble.Goals as goal

pub returns : goal.returns
unfolding preamble
returns g c =
    then-gives (exactly (0x00 ∷ 0x61 ∷ 0x73 ∷ 0x6D ∷ []) Magic) (λ _.
    exactly (0x01 ∷ 0x00 ∷ 0x00 ∷ 0x00 ∷ []) Version) _ _ _ tt c.in_ok-exactly.ensures c.exactly-2.result
    c.exactly-2.ensures
