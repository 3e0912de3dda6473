use Rattle.std.proofs.Common.{◌≡◌, ◌-◌, length}
use Rattle.wc_binary.specs.Reading.Reading.{read}
use Rattle.wc_binary.specs.Standard.Values.{times}
use Rattle.wc_binary.proofs.reading.Behind.{Leads}
use Rattle.wc_binary.proofs.reading.Times.{with_first}
use Rattle.wc_binary.proofs.decoder.vector.times.Given as goal

abbrev pub invariant-loop : goal.invariant-loop
invariant-loop g l =
    let old = g.S.Source.input l.fn.source in
    let now = g.S.Source.input l.source in
    record {
      counted : length l.values ≡ l.counter;
      leads :
          Leads old now (λ x. with_first l.values (read (times (l.count - l.counter) g.V.FromSource.phrase) now.place
          x))
          (λ x. read (times l.count g.V.FromSource.phrase) old.place x);
    }
