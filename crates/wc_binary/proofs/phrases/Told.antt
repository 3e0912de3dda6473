-- The two answers of a reading, in the phrase's words.
use Rattle.std.proofs.Common.{◌≡◌, ℕ, ◌+◌, List, ◌++◌, length, Result, Ok, Err}
use Rattle.wc_binary.specs.Standard.Phrase.{Halt, Phrase, Spells, Stops}
use Rattle.wc_binary.specs.Reading.Reading.{Got}

abbrev pub IsTold : {A : Type 0} → Phrase A → ℕ → List ℕ → Result (Got A) Halt → Type 0
IsTold p o x (Ok g) = (a : List ℕ) × (x ≡ a ++ g.left) × Spells p a g.value × (g.place ≡ o + length a)
IsTold p o x (Err f) = Stops p o x f
