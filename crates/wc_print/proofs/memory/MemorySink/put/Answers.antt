use Rattle.std.proofs.Common.{◌∙◌, sym}
use Rattle.wc_print.proofs.Writing.Putting.{kept}
use Rattle.wc_print.proofs.memory.MemorySink.put.Goals as goal

pub returns-then-not-self : goal.returns-then-not-self
returns-then-not-self c = record {
  all = λ first said has enough.
      kept c.extend_from_slice.result _ _ said _ (sym c.is_err-self.ensures.value
      ∙ enough) c.extend_from_slice.ensures.items
      (has c.if-not-self.true);
}

pub returns-else-not-self : goal.returns-else-not-self
returns-else-not-self c = record { all = λ first said has enough. absurd (cc (enough, c.if-not-self.false)) }
