use Rattle.std.proofs.Common.{ap, ◌∙◌}
use Rattle.wc_body.specs.Standard.InstructionBytes.{code_bytes}
use Rattle.wc_body.proofs.Packing.EntryBytes.{kept-bytes, kept-fits}
use Rattle.wc_body.proofs.kept.body.Body.bytes.Goals as goal

pub returns-clause-bytes : goal.returns-clause-bytes
returns-clause-bytes c =
    c.as_slice.ensures.value
    ∙ kept-bytes c.self.inside.bytes.items c.self.invariant.packed c.self.invariant.whole ∙ ap code_bytes c.self.view_is

pub returns-clause-fits : goal.returns-clause-fits
returns-clause-fits c =
    rw (← c.self.view_is) (kept-fits c.self.inside.bytes.items c.self.invariant.packed c.self.invariant.whole)
