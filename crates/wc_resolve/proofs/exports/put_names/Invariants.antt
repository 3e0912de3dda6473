use Rattle.std.proofs.Common.{◌≡◌, ◌++◌, drop}
use Rattle.wc_resolve.specs.Standard.Exports.{exported_as}
use Rattle.wc_resolve.proofs.exports.put_names.Given as goal

abbrev pub invariant-loop-name : goal.invariant-loop-name
invariant-loop-name l = l.out ++ exported_as l.kind l.index (drop l.name-index l.names)
    ≡ l.initial.out ++ exported_as l.kind l.index l.names
