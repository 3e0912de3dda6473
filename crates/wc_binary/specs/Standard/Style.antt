-- How freely a module may be spelled. The format is defined once and read in two styles.
use Rattle.std.specs.Prelude.{ℕ, ℤ, ◌≤◌, List, length}
use Rattle.wc_leb128.specs.Standard.Integers.{U, S}

-- what spellings a style admits
pub record Style : Type 1 where
  -- which bytes spell an unsigned integer of so many bits, and which a signed one (Core 1.0, 5.2.2)
  pub Integer : ℕ → List ℕ → ℕ → Type 0
  pub Signed : ℕ → List ℕ → ℤ → Type 0
  -- what becomes of a liberty, of which this is the canonical choice
  pub Neat : Type 0 → Type 0

-- a spelling of which no other is shorter
abbrev pub IsShortest : {A : Type 0} → (ℕ → List ℕ → A → Type 0) → ℕ → List ℕ → A → Type 0
IsShortest Spelled N b n = Spelled N b n × ((c : List ℕ) → Spelled N c n → length b ≤ length c)

-- whatever the standard admits
abbrev pub free : Style
free = record { Integer = U; Signed = S; Neat = λ P. Unit {0} }

-- each integer by its shortest spelling, and no liberty taken
abbrev pub canonical : Style
canonical = record { Integer = IsShortest U; Signed = IsShortest S; Neat = λ P. P }
