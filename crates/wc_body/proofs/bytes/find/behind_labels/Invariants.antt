use Rattle.std.proofs.Common.{◌≡◌, ◌-◌}
use Rattle.wc_body.specs.Reading.Fronts.{behind_labels}
use Rattle.wc_body.proofs.bytes.find.behind_labels.Given as goal

abbrev pub invariant-loop : goal.invariant-loop
invariant-loop l = behind_labels (l.count - l.counter) l.rest ≡ behind_labels l.count l.bytes
