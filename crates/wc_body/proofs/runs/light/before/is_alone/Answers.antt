use Rattle.std.proofs.Common.{arith}
use Rattle.std.proofs.lemmas.Bool.Decides.{nat_tests}
use Rattle.wc_body.proofs.Drafts.Runs.BeforeLemmas.{light-alone}
use Rattle.wc_body.proofs.runs.light.before.is_alone.Goals as goal

pub returns : goal.returns
returns c one = light-alone c.args.opcode _ c.light_of.ensures (grind (arith, nat_tests, one))
