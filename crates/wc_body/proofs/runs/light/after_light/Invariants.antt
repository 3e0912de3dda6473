use Rattle.std.proofs.Common.{length}
use Rattle.wc_body.specs.Drafting.AtFront.{NotesRun}
use Rattle.wc_body.specs.Drafting.LightRows.{with_noted}
use Rattle.wc_body.proofs.runs.light.after_light.Given as goal

abbrev pub invariant-entries : goal.invariant-entries
invariant-entries l = NotesRun l.enclosing l.bytes l.rest l.initial.needs (with_noted l.noted l.needs)

abbrev pub decreases-entries : goal.decreases-entries
decreases-entries l = length l.rest
