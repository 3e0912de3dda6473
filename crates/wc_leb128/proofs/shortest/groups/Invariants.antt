use Rattle.std.proofs.Common.{◌≡◌, ◌++◌}
use Rattle.wc_leb128.specs.Writing.Bytes.{signed_of, signed_bytes}
use Rattle.wc_leb128.proofs.shortest.groups.Given as goal

abbrev pub invariant-loop-rest : goal.invariant-loop-rest
invariant-loop-rest l = l.leb ++ signed_bytes (signed_of l.negative l.rest) ≡ signed_bytes (signed_of l.negative l.bits)

abbrev pub decreases-loop-rest : goal.decreases-loop-rest
decreases-loop-rest l = l.rest
