use Rattle.std.proofs.Common.{◌-◌}
use Rattle.wc_binary.specs.Reading.Reading.{read}
use Rattle.wc_binary.specs.Standard.Values.{times}
use Rattle.wc_binary.specs.Standard.Externals.{import}
use Rattle.wc_binary.proofs.reading.Behind.{Leads}
use Rattle.wc_binary.proofs.reading.Times.{with_first}
use Rattle.wc_binary.proofs.decoder.externals.imports.Given as goal

abbrev pub invariant-loop : goal.invariant-loop
invariant-loop g l =
    let old = g.S.Source.input l.fn.source in
    let now = g.S.Source.input l.source in
    Leads old now (λ x. with_first l.imports (read (times (l.count - l.counter) import) now.place x))
    (λ x. read (times l.count import) old.place x)
