use Rattle.std.proofs.Common.{◌-◌, ◌^◌}
use Rattle.wc_binary.specs.Reading.Reading.{read}
use Rattle.wc_binary.specs.Standard.Instructions.{expr}
use Rattle.wc_binary.proofs.reading.Entries.{Draws}
use Rattle.wc_binary.proofs.decoder.expression.body_from.Given as goal

abbrev pub invariant-entries : goal.invariant-entries
invariant-entries g l =
    let old = g.S.Source.input l.fn.source in
    Draws old (g.S.Source.input l.source) l.builder (λ x. read expr old.place x)

abbrev pub decreases-entries : goal.decreases-entries
decreases-entries g l = 2 ^ 64 - (g.S.Source.input l.source).place
