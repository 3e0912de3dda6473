use Rattle.std.proofs.Common.{rules}
use Rattle.wc_cli.proofs.telling.hash.Goals as goal

-- written out, so that a wrong body is refused by this search alone
pub returns-in-Ok-hash_line : goal.returns-in-Ok-hash_line
returns-in-Ok-hash_line g c = search rules
