use Rattle.std.proofs.Common.{rules}
use Rattle.wc_resolve.proofs.exports.put_field.Goals as goal

-- written out, so that a wrong body is refused by this search alone
pub returns-in-Func-clause-exports : goal.returns-in-Func-clause-exports
returns-in-Func-clause-exports c = search rules
