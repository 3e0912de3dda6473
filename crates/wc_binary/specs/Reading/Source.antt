-- What a source of bytes is to contracts, what it answers, and what a reader of a phrase answers over it.
use Rattle.std.specs.Prelude.{◌≡◌, ℕ, ◌+◌, ◌-◌, ◌≤◌, Bool, false, IsTrue, List, []}
use Rattle.std.specs.Prelude.{◌∷◌, ◌++◌, length, drop, Option, Some}
use Rattle.std.specs.Prelude.{None, is_some, take, Result, Ok, Err}
use Rattle.std.specs.List.{AllByRecursion}
use Rattle.wc_binary.specs.declared.fault.BinFault.{BinFault}
use Rattle.wc_binary.specs.declared.fault.BinFault.TheVariants.{Bad, Read, Memory}
use Rattle.wc_binary.specs.declared.fault.BinWhy.TheVariants.{End}
use Rattle.wc_binary.specs.Standard.Phrase.{Phrase, Halt, halt}
use Rattle.wc_binary.specs.Standard.Values.{IsByte}
use Rattle.wc_binary.specs.Reading.Reading.{Got, got, read}

-- an input in the course of reading
pub record Input : Type 0 where
  -- how many bytes were taken
  pub place : ℕ
  -- the bytes to come, where they are known
  pub known : Bool
  pub left : List ℕ
  -- how many bytes were read from the device, and how many when a read failed
  pub count : ℕ
  pub failed : Option ℕ
  -- whether a read failed or was told the end, and whether the device was asked once more after that
  pub spent : Bool
  pub asked : Bool
  -- the loan of the device
  pub lender : ℕ

-- the bytes to come up to this place
abbrev pub up_to : ℕ → Input → List ℕ
up_to at i = take (at - i.place) i.left

-- reading went forward, on the same device, and no read failed or was told the end
pub record GoesOn (old new : Input) : Type 0 where
  pub forward : old.place ≤ new.place
  pub failed : new.failed ≡ old.failed
  pub spent : new.spent ≡ old.spent
  pub asked : old.spent ≡ false → new.asked ≡ old.asked
  pub lender : new.lender ≡ old.lender

-- the same, but that a read may have been told the end: none was asked for after that
pub record Stopped (old new : Input) : Type 0 where
  pub forward : old.place ≤ new.place
  pub failed : new.failed ≡ old.failed
  pub asked : old.spent ≡ false → new.asked ≡ old.asked
  pub lender : new.lender ≡ old.lender

-- a read of the same device failed after so many bytes, and none was asked for after that
pub record ReadFailed (old new : Input) (at : ℕ) : Type 0 where
  pub forward : old.place ≤ at
  pub has_failed : IsTrue (is_some new.failed)
  pub failed : old.failed ≡ None → new.failed ≡ Some at
  pub count : at ≡ new.count
  pub asked : old.spent ≡ false → new.asked ≡ old.asked
  pub lender : new.lender ≡ old.lender

-- no byte is to come, and all that were read were taken
abbrev pub IsEnded : Input → Type 0
IsEnded i = (i.count ≡ i.place) × (IsTrue i.known → i.left ≡ [])

-- the next byte was taken, or there is none; a read fails only where one is wanted and none is at hand
abbrev pub NextGives : Input → Input → Result (Option ℕ) BinFault → Type 0
NextGives old new (Ok None) =
    Stopped old new × (new.place ≡ old.place) × (IsTrue old.known → IsTrue new.known × (old.left ≡ [])) × IsEnded new
NextGives old new (Ok (Some b)) =
    GoesOn old new × (new.place ≡ old.place + 1) × (IsTrue old.known → IsTrue new.known × (old.left ≡ b ∷ new.left))
    × IsByte b
NextGives old new (Err (Read at)) =
    ReadFailed old new at × (up_to at old ≡ []) × (at ≡ old.place)
NextGives old new (Err e) = ⊥

-- the next byte was taken, or that none is left was told at its place
abbrev pub ByteGives : Input → Input → Result ℕ BinFault → Type 0
ByteGives old new (Ok b) = NextGives old new (Ok (Some b))
ByteGives old new (Err (Bad at why)) = NextGives old new (Ok None) × (at ≡ old.place) × (why ≡ End)
ByteGives old new (Err (Read at)) = NextGives old new (Err (Read at))
ByteGives old new (Err Memory) = ⊥

-- these bytes were taken
abbrev pub Takes : Input → Input → List ℕ → Type 0
Takes old new bytes =
    GoesOn old new × (new.place ≡ old.place + length bytes)
    × (IsTrue old.known → IsTrue new.known × (old.left ≡ bytes ++ new.left)) × AllByRecursion IsByte bytes

-- the other bytes of a spelling were taken, whose first one this is; or nothing was
abbrev pub TakesRest : {A : Type 0} → (List ℕ → A → Type 0) → ℕ → Input → Input → Option A → Type 0
TakesRest Spells first old new (Some v) = (rest : List ℕ) × Spells (first ∷ rest) v × Takes old new rest
TakesRest Spells first old new None = new ≡ old

-- these so many bytes are the next ones
abbrev pub AreAhead : Input → ℕ → List ℕ → Type 0
AreAhead i count bytes =
    (length bytes ≡ count) × (IsTrue i.known → bytes ≡ take count i.left) × AllByRecursion IsByte bytes

-- at most so many bytes were taken, and put behind those before
abbrev pub TakesBehind : {E : Type 0} → ℕ → Input → Input → List ℕ → List ℕ → Result (Unit {0}) E → Type 0
TakesBehind most old new before after (Ok u) =
    (bytes : List ℕ) × (after ≡ before ++ bytes) × (length bytes ≤ most) × Takes old new bytes
TakesBehind most old new before after (Err e) = GoesOn old new

-- so many bytes were dropped, which is at most so many
abbrev pub Passes : ℕ → Input → Input → ℕ → Type 0
Passes most old new count =
    GoesOn old new × (count ≤ most) × (new.place ≡ old.place + count)
    × (IsTrue old.known → IsTrue new.known × (count ≤ length old.left) × (new.left ≡ drop count old.left)
    × AllByRecursion IsByte (take count old.left))

-- what was told in place of what the reading `r` gives: its fault; or that a read failed, where the bytes before it
-- have no fault but that the next one is missing
abbrev pub Fails : {A : Type 0} → Input → Input → BinFault → (List ℕ → Result (Got A) Halt) → Type 0
Fails old new (Bad at why) r = Stopped old new × (IsTrue old.known → r old.left ≡ Err (halt at why new.place))
Fails old new (Read at) r = ReadFailed old new at × (IsTrue old.known → r (up_to at old) ≡ Err (halt at End at))
Fails old new Memory r = Stopped old new

-- the answer is what the reading `r` gives of the bytes to come
abbrev pub Gave : {A : Type 0} → Input → Input → Result A BinFault → (List ℕ → Result (Got A) Halt) → Type 0
Gave old new (Ok v) r =
    GoesOn old new × (IsTrue old.known → IsTrue new.known × (r old.left ≡ got v new.place new.left))
Gave old new (Err e) r = Fails old new e r

-- the answer is what reading the phrase gives
abbrev pub Gives : {A : Type 0} → Phrase A → Input → Input → Result A BinFault → Type 0
Gives p old new result = Gave old new result (λ x. read p old.place x)
