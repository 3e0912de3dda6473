use Rattle.std.proofs.Common.{◌-◌}
use Rattle.wc_binary.specs.Reading.Reading.{read}
use Rattle.wc_binary.specs.Standard.Values.{times}
use Rattle.wc_binary.specs.Standard.Types.{table_type}
use Rattle.wc_binary.proofs.reading.Behind.{Leads}
use Rattle.wc_binary.proofs.reading.Times.{with_first}
use Rattle.wc_binary.proofs.decoder.types.table_types.Given as goal

abbrev pub invariant-loop : goal.invariant-loop
invariant-loop g l =
    let old = g.S.Source.input l.fn.source in
    let now = g.S.Source.input l.source in
    Leads old now (λ x. with_first l.tables (read (times (l.count - l.counter) table_type) now.place x))
    (λ x. read (times l.count table_type) old.place x)
