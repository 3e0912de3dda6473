use Rattle.std.proofs.Common.{◌≡◌, ◌++◌, map}
use Rattle.wc_check.specs.Judging.Names.{hash_of_name}
use Rattle.wc_check.proofs.names.hashes_of.Given as goal

abbrev pub invariant-loop-export : goal.invariant-loop-export
invariant-loop-export l =
    l.hashes.items ++ map (λ e. hash_of_name e.name) l.export-iterator ≡ map (λ e. hash_of_name e.name) l.exports
