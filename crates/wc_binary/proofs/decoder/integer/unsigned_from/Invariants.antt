use Rattle.std.proofs.Common.{◌≡◌, ℕ, ◌-◌, ◌^◌, List, Some}
use Rattle.wc_leb128.specs.Standard.Integers.{U, IsUnfinished}
use Rattle.wc_binary.proofs.reading.integers.SignedBytes.{Held}
use Rattle.wc_binary.proofs.decoder.integer.unsigned_from.Given as goal

abbrev pub invariant-loop-value : goal.invariant-loop-value
invariant-loop-value g l =
    (a : List ℕ) × (l.so_far ≡ Some a) × IsUnfinished (U 32) a
    × Held a l.start l.first (g.S.Source.input l.fn.source) (g.S.Source.input l.source) l.at l.byte

abbrev pub decreases-loop-value : goal.decreases-loop-value
decreases-loop-value g l = 2 ^ 64 - (g.S.Source.input l.source).place
