use Rattle.std.proofs.Common.{rules}
use Rattle.wc_resolve.proofs.offset.zero_offset.Goals as goal

-- written out, so that a wrong body is refused by this search alone
pub returns : goal.returns
returns c = search rules
