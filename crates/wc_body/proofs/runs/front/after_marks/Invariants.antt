use Rattle.std.proofs.Common.{length}
use Rattle.wc_body.specs.Drafting.AtFront.{NotesMarks}
use Rattle.wc_body.proofs.runs.front.after_marks.Given as goal

abbrev pub invariant-marks : goal.invariant-marks
invariant-marks l = NotesMarks l.bytes l.rest l.initial.parts.items l.parts.items

abbrev pub decreases-marks : goal.decreases-marks
decreases-marks l = length l.rest
