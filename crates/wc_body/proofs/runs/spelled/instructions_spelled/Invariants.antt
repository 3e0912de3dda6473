use Rattle.std.proofs.Common.{[], length}
use Rattle.wc_body.specs.Standard.Entries.{drafted}
use Rattle.wc_body.specs.Reading.Unpacked.{unpacked}
use Rattle.wc_body.proofs.Drafts.Runs.FrontRun.{Fronted}
use Rattle.wc_body.proofs.runs.spelled.instructions_spelled.Given as goal

abbrev pub invariant-loop-rest : goal.invariant-loop-rest
invariant-loop-rest l = Fronted [] (drafted (unpacked [])) l.bytes l.rest [] l.needs

abbrev pub decreases-loop-rest : goal.decreases-loop-rest
decreases-loop-rest l = length l.rest
