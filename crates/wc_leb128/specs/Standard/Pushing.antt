-- What a byte is answered that is pushed behind others.
use Rattle.std.specs.Prelude.{◌≡◌, ℕ, List, [], ◌∷◌, ◌++◌, Option, Some, None}
use Rattle.wc_leb128.specs.declared.step.Step.{Step}
use Rattle.wc_leb128.specs.declared.step.Step.TheVariants.{More, Done, Bad}
use Rattle.wc_leb128.specs.Standard.Integers.{Begins, IsUnfinished}

-- What the bytes `a`, the last of them just pushed, are answered: `Done` with the number that they spell, `More` where
-- a longer spelling begins with them, `Bad` where none does; and what is kept of them.
abbrev pub Answers : {A : Type 0} → (List ℕ → A → Type 0) → List ℕ → Step A → Option (List ℕ) → Type 0
Answers Spells a (Done n) new = Spells a n × (new ≡ None)
Answers Spells a More new = IsUnfinished Spells a × (new ≡ Some a)
Answers Spells a Bad new = (Begins Spells a → ⊥) × (new ≡ None)

-- the same of the bytes so far and one more; once they have ended, every byte is `Bad`
abbrev pub AnswersFrom : {A : Type 0} → (List ℕ → A → Type 0) → Option (List ℕ) → ℕ → Step A → Option (List ℕ) → Type 0
AnswersFrom Spells (Some a) b result new = Answers Spells (a ++ b ∷ []) result new
AnswersFrom Spells None b result new = (result ≡ Bad) × (new ≡ None)
