use Rattle.wc_binary.specs.declared.fault.BinWhy.TheVariants.{WrongType}
use Rattle.wc_binary.specs.Standard.Phrase.{byte}
use Rattle.wc_binary.specs.Standard.Values.{only}
use Rattle.wc_binary.specs.Standard.Types.{limits, table_type}
use Rattle.wc_binary.proofs.reading.Behind.{then-gives}
use Rattle.wc_binary.proofs.decoder.types.table_type.Goals as goal

pub returns : goal.returns
unfolding table_type
returns g c =
    then-gives (byte (only 0x70 WrongType)) (λ _. limits) _ _ _ tt c.in_ok-only.ensures c.read.result c.read.ensures
