use Rattle.std.proofs.Common.{◌-◌, length}
use Rattle.wc_binary.specs.Reading.Reading.{read}
use Rattle.wc_binary.specs.Standard.Locals.{locals}
use Rattle.wc_binary.proofs.reading.Behind.{Leads}
use Rattle.wc_binary.proofs.reading.Locals.{with_locals, groups_at}
use Rattle.wc_binary.proofs.decoder.locals.locals_from.Given as goal

abbrev pub invariant-loop : goal.invariant-loop
invariant-loop g l =
    let old = g.S.Source.input l.fn.source in
    let now = g.S.Source.input l.source in
    Leads old now (λ x. with_locals l.locals (groups_at (l.count - l.counter) (length l.locals) now x)) (λ x.
    read locals old.place x)
