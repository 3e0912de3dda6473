use Rattle.std.proofs.Common.{false}
use Rattle.std.specs.List.{flat_map}
use Rattle.wc_declare.specs.declared.kind.SpaceKind.TheVariants as kind
use Rattle.wc_declare.specs.Standard.Spaces.{space, repeated}
use Rattle.wc_declare.specs.Standard.Order.{late_after, second_after}
use Rattle.wc_declare.specs.Standard.Inner.{inner_faults}
use Rattle.wc_declare.proofs.Staging.{spaces-told, declarations-told}
use Rattle.wc_declare.proofs.gathering.join_all.Goals as goal

pub returns : goal.returns
returns c = λ all told.
    declarations-told all c.args.noted.now.first c.join-5.new.noted.first c.join-6.new.noted.first
    c.join-7.new.noted.first c.join-8.new.noted.first c.join-8.new.noted.first
    (spaces-told all c.args.noted.now.first c.join.new.noted.first c.join-2.new.noted.first c.join-3.new.noted.first
    c.join-4.new.noted.first c.join-5.new.noted.first
    (c.join.ensures (repeated (space kind.Type all)) told.types)
    (c.join-2.ensures (repeated (space kind.Func all)) told.funcs)
    (c.join-3.ensures (repeated (space kind.Table all)) told.tables)
    (c.join-4.ensures (repeated (space kind.Memory all)) told.memories)
    (c.join-5.ensures (repeated (space kind.Global all)) told.globals))
    (c.join-6.ensures (late_after false all) told.late)
    (c.join-7.ensures (second_after false all) told.second)
    (c.join-8.ensures (flat_map inner_faults all) told.inner)
