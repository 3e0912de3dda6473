use Rattle.std.proofs.Common.{ℤ, length}
use Rattle.wc_leb128.specs.Standard.Integers.{S}
use Rattle.wc_leb128.proofs.Reading.AtFront.{IsMidway}
use Rattle.wc_leb128.proofs.front.signed_at.Given as goal

abbrev pub invariant-loop-byte : goal.invariant-loop-byte
invariant-loop-byte g l = IsMidway ℤ (S g.row.N) l.bytes l.so_far l.rest

abbrev pub decreases-loop-byte : goal.decreases-loop-byte
decreases-loop-byte g l = length l.rest
