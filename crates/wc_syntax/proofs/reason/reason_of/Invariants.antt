use Rattle.std.proofs.Common.{◌≡◌, drop}
use Rattle.wc_syntax.specs.Tables.Table.{first_reason}
use Rattle.wc_syntax.specs.Standard.Reasons.{wrong}
use Rattle.wc_syntax.specs.Standard.Instead.{wrongs}
use Rattle.wc_syntax.proofs.reason.reason_of.Given as goal

abbrev pub invariant-loop-instead : goal.invariant-loop-instead
invariant-loop-instead l =
    first_reason l.place l.frame l.deep (wrong l.fn.kind) ≡ first_reason l.place l.frame l.deep
    (wrongs (drop l.instead-index l.instead-items))
