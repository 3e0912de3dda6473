use Rattle.std.proofs.Common.{◌-◌, ◌≤◌, length}
use Rattle.wc_binary.specs.Reading.Reading.{read}
use Rattle.wc_binary.specs.Standard.Values.{times, any_byte}
use Rattle.wc_binary.proofs.reading.Behind.{Leads}
use Rattle.wc_binary.proofs.reading.Times.{with_first}
use Rattle.wc_binary.proofs.decoder.vector.bytes.Given as goal

abbrev pub invariant-loop-source : goal.invariant-loop-source
invariant-loop-source g l =
    let old = g.S.Source.input l.fn.source in
    let now = g.S.Source.input l.source in
    record {
      counted : length l.bytes.items ≤ l.count;
      leads :
          Leads old now
          (λ x. with_first l.bytes.items (read (times (l.count - length l.bytes.items) any_byte) now.place x))
          (λ x. read (times l.count any_byte) old.place x);
    }

abbrev pub decreases-loop-source : goal.decreases-loop-source
decreases-loop-source g l = l.count - length l.bytes.items
