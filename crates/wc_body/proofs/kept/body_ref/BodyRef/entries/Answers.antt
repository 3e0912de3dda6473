use Rattle.std.proofs.Common.{sym, ap, ◌∙◌}
use Rattle.wc_body.specs.Standard.Nested.{flatten}
use Rattle.wc_body.proofs.kept.body_ref.BodyRef.entries.Goals as goal

pub returns-clause-marks : goal.returns-clause-marks
returns-clause-marks c =
    c.of_bytes.ensures ∙ sym c.self.invariant.whole.whole ∙ ap flatten c.self.view_is
