-- What each call tells by its status, and what memory of the caller holds then.
use Rattle.std.specs.Prelude.{◌≡◌, ◌⊎◌, ℕ, ◌≤◌, ◌<◌, List, length}
use Rattle.wc_canon.specs.declared.fault.Refusal.{Refusal}
use Rattle.wc_canon.specs.declared.fault.Refusal.TheVariants as refusals
use Rattle.wc_canon.specs.Standard.Input.{IsAccepted, HasAnswer, HasFault}
use Rattle.wc_canon.specs.Standard.Printing.{HasText}
use Rattle.wc_canon.specs.Standard.Comparing.{IsSame, IsDifferent}
use Rattle.wc_canon.specs.Standard.Text.{refusal_text}
use Rattle.wc_ffi.specs.Standard.Memory.{in_front, told}

-- the status of a refusal
abbrev pub refusal_status : Refusal → ℕ
refusal_status (refusals.Binary at why) = 1
refusal_status (refusals.Lex at why) = 1
refusal_status (refusals.Syntax token at why) = 1
refusal_status (refusals.Names token at why) = 1
refusal_status (refusals.Check item why) = 1
refusal_status refusals.Oversize = 1
refusal_status refusals.Memory = 2

-- nothing was written
abbrev pub IsUntouched : List ℕ → List ℕ → ℕ → Type 0
IsUntouched old new needed = (new ≡ old) × (needed ≡ 0)

-- the answer was written; or there is one, and less room; or the input is refused; or memory was refused
pub record Normalises (input old new : List ℕ) (needed status : ℕ) : Type 0 where
  pub done : status ≡ 0 → (b : List ℕ) × HasAnswer input b × (needed ≡ length b) × (length b ≤ length old)
      × (new ≡ in_front b old)
  pub short : status ≡ 3
      → (b : List ℕ) × HasAnswer input b × (needed ≡ length b) × (length old < length b) × (new ≡ old)
  pub refused : status ≡ 1 → ((f : Refusal) × HasFault input f) × IsUntouched old new needed
  pub memory : status ≡ 2 → IsUntouched old new needed

-- the text was written; or there is one, and less room; or the input is refused; or memory was refused
pub record Prints (input old new : List ℕ) (needed status : ℕ) : Type 0 where
  pub done : status ≡ 0 → (t : List ℕ) × HasText input t × (needed ≡ length t) × (length t ≤ length old)
      × (new ≡ in_front t old)
  pub short : status ≡ 3 → (t : List ℕ) × HasText input t × (needed ≡ length t) × (length old < length t) × (new ≡ old)
  pub refused : status ≡ 1 → ((f : Refusal) × HasFault input f) × IsUntouched old new needed
  pub memory : status ≡ 2 → IsUntouched old new needed

-- the input is accepted; or it is refused, and the text of its fault is told; or memory was refused
pub record Checks (input old new : List ℕ) (needed status : ℕ) : Type 0 where
  pub accepted : status ≡ 0 → IsAccepted input × IsUntouched old new needed
  pub refused : status ≡ 1 → (f : Refusal) × HasFault input f × (needed ≡ length (refusal_text f))
      × (new ≡ told (refusal_text f) old)
  pub memory : status ≡ 2 → IsUntouched old new needed

-- the inputs are the same module, or different ones, or one of them is refused
pub record CompareTells (a b : List ℕ) (status : ℕ) : Type 0 where
  pub same : status ≡ 0 → IsSame a b
  pub different : status ≡ 4 → IsDifferent a b
  pub refused_a : status ≡ 5 → (f : Refusal) × HasFault a f
  pub refused_b : status ≡ 6 → IsAccepted a × ((f : Refusal) × HasFault b f)

-- a status of a comparison
abbrev pub IsComparison : ℕ → Type 0
IsComparison status =
    (status ≡ 0) ⊎ ((status ≡ 2) ⊎ ((status ≡ 4) ⊎ ((status ≡ 5) ⊎ (status ≡ 6))))
