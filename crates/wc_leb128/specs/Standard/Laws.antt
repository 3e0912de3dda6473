-- What holds of all spellings of a width, and of what is answered to bytes.
use Rattle.std.specs.Prelude.{◌≡◌, ℕ, List, [], ◌++◌, ◌↔◌, ◌⊎◌}
use Rattle.wc_leb128.specs.declared.step.Step.{Step}
use Rattle.wc_leb128.specs.declared.step.Step.TheVariants.{More, Done, Bad}
use Rattle.wc_leb128.specs.Standard.Integers.{Begins, IsUnfinished}

-- each spelling has one value, and begins no other spelling
pub record IsUnambiguous {A : Type 0} (Spells : List ℕ → A → Type 0) : Type 0 where
  pub one_value : (a : List ℕ) (m n : A) → Spells a m → Spells a n → m ≡ n
  pub begins_no_other : (a c : List ℕ) (m n : A) → Spells a m → Spells (a ++ c) n → c ≡ []

-- a longer spelling begins with the list, or the list is a spelling, or no spelling begins with it
abbrev pub IsOneOfThree : {A : Type 0} → (List ℕ → A → Type 0) → List ℕ → Type 0
IsOneOfThree {A} Spells a = IsUnfinished Spells a ⊎ (((n : A) × Spells a n) ⊎ (Begins Spells a → ⊥))

-- the answer to a list is `Done` exactly with what it spells, `More` exactly where it is unfinished, and `Bad` exactly
-- where no spelling begins with it
pub record IsExact {A : Type 0} (Spells : List ℕ → A → Type 0) (a : List ℕ) (answer : Step A) : Type 0 where
  pub done : (n : A) → (answer ≡ Done n) ↔ Spells a n
  pub more : (answer ≡ More) ↔ IsUnfinished Spells a
  pub bad : (answer ≡ Bad) ↔ (Begins Spells a → ⊥)
