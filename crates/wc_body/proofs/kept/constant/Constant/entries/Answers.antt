use Rattle.std.proofs.Common.{ℕ, List, sym, ap, ◌∙◌}
use Rattle.wc_body.specs.Standard.Nested.{flatten}
use Rattle.wc_body.specs.Standard.Entries.{marks}
use Rattle.wc_body.specs.Reading.Unpacked.{unpacked}
use Rattle.wc_body.proofs.kept.constant.Constant.entries.Goals as goal

pub of_bytes-requires : goal.of_bytes-requires
of_bytes-requires c = rw c.as_slice.ensures.value c.self.invariant.packed

pub returns-clause-marks : goal.returns-clause-marks
returns-clause-marks c =
    c.of_bytes.ensures ∙ ap (λ (x : List ℕ). marks (unpacked x)) c.as_slice.ensures.value
    ∙ sym c.self.invariant.whole.whole ∙ ap flatten c.self.view_is
