use Rattle.std.proofs.Common.{arith}
use Rattle.std.proofs.lemmas.Bool.Decides.{nat_tests}
use Rattle.wc_print.proofs.Writing.Stringing.{string-put}
use Rattle.wc_print.proofs.strings.put_string.Goals as goal

pub returns : goal.returns
returns g c =
    string-put _ _ c.type_inv.bytes
    (grind (arith, nat_tests, c.is_empty.ensures, c.loop-rest-test.false))
    c.put.ensures
    c.loop-rest.invariant c.put-2.ensures
