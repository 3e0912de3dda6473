-- An item that is read, and put behind others.
use Rattle.std.specs.Prelude.{◌≡◌, ◌+◌, ℕ, Bool, true, false, List, [], ◌∷◌, ◌++◌, length, Option, Some, None}
use Rattle.std.specs.Prelude.{Result, Ok, Err}
use Rattle.wc_binary.specs.declared.fault.BinFault.{BinFault}
use Rattle.wc_binary.specs.Standard.Phrase.{Phrase, Spells}
use Rattle.wc_binary.specs.Reading.Source.{Input, Gives}

-- the bytes begin with a spelling of this value, and these follow it
abbrev pub BeginsWith : {A : Type 0} → Phrase A → List ℕ → A → List ℕ → Type 0
BeginsWith {A} p x v y = (a : List ℕ) × (x ≡ a ++ y) × Spells {A = A} p a v

-- the item that the bytes begin with, which has so many of them, was put behind the others; or none was
abbrev pub AddsFirst : {A : Type 0} → Phrase A → List A → List A → List ℕ → Option ℕ → Type 0
AddsFirst p row after x None = after ≡ row
AddsFirst {A} p row after x (Some n) =
    (v : A) × (y : List ℕ) × BeginsWith p x v y × (n + length y ≡ length x) × (after ≡ row ++ v ∷ [])

-- an item was read by the phrase and put behind the others, or its fault is told
abbrev pub AddsItem : {A V : Type 0} → Phrase A → List A → List A → Input → Input → Result V BinFault → Type 0
AddsItem {A} p row after old new (Ok v) = (a : A) × Gives p old new (Ok a) × (after ≡ row ++ a ∷ [])
AddsItem p row after old new (Err e) = Gives p old new (Err e)

-- the same; or nothing was taken; or memory was wanted
abbrev pub TakesItem : {A : Type 0} → Phrase A → List A → List A → Input → Input → Result Bool BinFault → Type 0
TakesItem {A} p row after old new (Ok true) = (a : A) × Gives p old new (Ok a) × (after ≡ row ++ a ∷ [])
TakesItem p row after old new (Ok false) = (after ≡ row) × (new ≡ old)
TakesItem p row after old new (Err e) = Gives p old new (Err e)
