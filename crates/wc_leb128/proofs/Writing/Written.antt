-- The bytes written so far, and those that are left to write.
use Rattle.std.proofs.Common.{◌≡◌, ℕ, ◌≤◌, ◌<◌, List, [], ◌∷◌, ◌++◌, length, ap, ◌∙◌, append_assoc, length-append}
use Rattle.std.proofs.Common.{arith}

pub with_one : (out rest total left : List ℕ) (b : ℕ) → left ≡ b ∷ rest → out ++ left ≡ total
    → (out ++ b ∷ []) ++ rest ≡ total
with_one out rest total left b e h = append_assoc out (b ∷ []) rest ∙ (rw e at h)

pub with_last : (out total left : List ℕ) (b : ℕ) → left ≡ b ∷ [] → out ++ left ≡ total → out ++ b ∷ [] ≡ total
with_last out total left b e h = rw e at h

pub room_left : (out left total : List ℕ) (k : ℕ) → out ++ left ≡ total → 1 ≤ length left → length total ≤ k
    → length out < k
room_left out left total k e some few = let l = simp length-append at (ap length e) in omega arith
