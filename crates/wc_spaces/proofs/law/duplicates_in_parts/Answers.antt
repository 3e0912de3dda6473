use Rattle.wc_spaces.proofs.Duplicates.{duplicates_after-append}
use Rattle.wc_spaces.proofs.law.duplicates_in_parts.Goals as goal

pub returns : goal.returns
returns g c = duplicates_after-append
