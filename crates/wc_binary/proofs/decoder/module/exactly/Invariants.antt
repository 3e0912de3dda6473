use Rattle.std.proofs.Common.{drop}
use Rattle.wc_binary.specs.Reading.Reading.{read}
use Rattle.wc_binary.specs.Standard.Values.{exactly}
use Rattle.wc_binary.proofs.reading.Behind.{Leads}
use Rattle.wc_binary.proofs.decoder.module.exactly.Given as goal

abbrev pub invariant-loop-b : goal.invariant-loop-b
invariant-loop-b g l =
    let old = g.S.Source.input l.fn.source in
    let now = g.S.Source.input l.source in
    Leads old now (λ x. read (exactly (drop l.b-index l.bytes) l.why) now.place x)
    (λ x. read (exactly l.bytes l.why) old.place x)
