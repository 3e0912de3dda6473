-- What an integer in the making stands for, and what a last byte makes of it.
use Rattle.std.specs.Prelude.{◌≡◌, ℕ, zero, suc, ◌+◌, ◌*◌, ◌/◌, ◌%◌, ◌^◌, ◌<◌, ◌≤◌, Bool, true, false, List, [], ◌∷◌}
use Rattle.std.specs.Prelude.{Option, Some, None, ℤ, pos, ◌+ℤ◌, ◌*ℤ◌}
use Rattle.wc_leb128.specs.declared.step.Step.{Step}
use Rattle.wc_leb128.specs.declared.step.Step.TheVariants.{More, Done, Bad}
use Rattle.wc_leb128.specs.Standard.Integers.{S}

-- the bytes that were pushed: each holds seven bits, from the low end
unfoldable pub digits : ℕ → ℕ → List ℕ
digits zero value = []
digits (suc k) value = (128 + value % 128) ∷ digits k (value / 128)

-- the bytes of an unfinished spelling, or none once it has ended
abbrev pub pushed : Bool → ℕ → ℕ → Option (List ℕ)
pushed true k value = Some (digits k value)
pushed false k value = None

-- the width is 1 to 64; while the spelling is unfinished, its bytes leave bits of the width, and hold the value
abbrev pub IsState : ℕ → Bool → ℕ → ℕ → Type 0
IsState N true k value = (0 < N) × (N ≤ 64) × (7 * k < N) × (value < 2 ^ (7 * k))
IsState N false k value = (0 < N) × (N ≤ 64)

-- A last byte for which `room` bits are left, and `shift` bits of value `low` below it: the number that the byte ends,
-- or that it ends none.
abbrev pub Ends : ℕ → ℕ → ℕ → ℕ → Step ℤ → Type 0
Ends room b low shift (Done z) = (m : ℤ) × S room (b ∷ []) m × (z ≡ pos low +ℤ (pos (2 ^ shift) *ℤ m))
Ends room b low shift Bad = (m : ℤ) → S room (b ∷ []) m → ⊥
Ends room b low shift More = ⊥
