use Rattle.std.proofs.Common.{◌-◌, ◌^◌}
use Rattle.wc_binary.proofs.reading.Whole.{Finds}
use Rattle.wc_binary.proofs.decoder.module.sections.Given as goal

abbrev pub invariant-loop-parts : goal.invariant-loop-parts
invariant-loop-parts g l = Finds (g.S.Source.input l.fn.source) (g.S.Source.input l.source) l.last l.parts

abbrev pub decreases-loop-parts : goal.decreases-loop-parts
decreases-loop-parts g l = 2 ^ 64 - (g.S.Source.input l.source).place
