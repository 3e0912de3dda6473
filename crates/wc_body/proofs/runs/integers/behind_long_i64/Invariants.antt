use Rattle.std.proofs.Common.{◌≡◌, ◌<◌, ◌≤◌, ◌-◌, ◌++◌, ◌∷◌, ℕ, List, length}
use Rattle.wc_body.proofs.Drafts.Runs.IntegerFronts.{Going}
use Rattle.wc_body.proofs.runs.integers.behind_long_i64.Given as goal

-- those that were passed go on, and so does the last one
abbrev pub invariant-bytes : goal.invariant-bytes
invariant-bytes l =
    (passed : List ℕ) × (l.fn.first ∷ l.fn.bytes ≡ passed ++ (l.last ∷ l.rest)) × Going passed
    × (length passed ≡ l.count) × (128 ≤ l.last) × (l.last < 256)

abbrev pub decreases-bytes : goal.decreases-bytes
decreases-bytes l = 8 - l.count
