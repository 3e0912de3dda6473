use Rattle.std.proofs.Common.{◌≡◌, ◌++◌}
use Rattle.wc_leb128.specs.Writing.Bytes.{unsigned_bytes}
use Rattle.wc_leb128.proofs.shortest.shortest_u.Given as goal

abbrev pub invariant-loop-rest : goal.invariant-loop-rest
invariant-loop-rest l = l.leb ++ unsigned_bytes l.rest ≡ unsigned_bytes l.n

abbrev pub decreases-loop-rest : goal.decreases-loop-rest
decreases-loop-rest l = l.rest
