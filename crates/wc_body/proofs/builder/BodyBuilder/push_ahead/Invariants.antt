use Rattle.std.proofs.Common.{length}
use Rattle.wc_body.proofs.Drafts.Runs.FreeRun.{Ran}
use Rattle.wc_body.proofs.builder.BodyBuilder.push_ahead.Given as goal

abbrev pub invariant-runs : goal.invariant-runs
invariant-runs l = Ran l.fn.self l.self l.bytes l.rest

abbrev pub decreases-runs : goal.decreases-runs
decreases-runs l = length l.rest
