use Rattle.wc_binary.specs.Reading.Reading.{read}
use Rattle.wc_binary.specs.Standard.Sections.{skip}
use Rattle.wc_binary.proofs.reading.Behind.{Leads}
use Rattle.wc_binary.proofs.decoder.section.skip.Given as goal

abbrev pub invariant-loop-left : goal.invariant-loop-left
invariant-loop-left g l =
    let old = g.S.Source.input l.fn.source in
    let now = g.S.Source.input l.source in
    Leads old now (λ x. read (skip l.left) now.place x) (λ x. read (skip l.count) old.place x)

abbrev pub decreases-loop-left : goal.decreases-loop-left
decreases-loop-left g l = l.left
