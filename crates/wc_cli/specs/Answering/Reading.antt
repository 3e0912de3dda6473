-- What a private function answers on the way.
use Rattle.std.specs.Prelude.{◌≡◌, ◌⊎◌, ℕ, ◌≤◌, List, length, take, Bool, true, false}
use Rattle.std.specs.Prelude.{Option, None, Some, IfSome, Result, Ok, Err, ⊤}
use Rattle.std.specs.Io.KnownBytes.{Appends}
use denote.Ref.{Bor}
use Rattle.wc_device.specs.declared.io_device.Device.{Device}
use Rattle.wc_device.specs.Standard.Device.{device_inner, has_failed, FlushedOnce, FlushedBehindAll}
use Rattle.wc_canon.specs.declared.fault.Refusal.{Refusal}
use Rattle.wc_canon.specs.declared.fault.Refusal.TheVariants.{Memory}
use Rattle.wc_canon.specs.declared.fault.RunFault.{RunFault}
use Rattle.wc_canon.specs.declared.fault.RunFault.TheVariants as fault
use Rattle.wc_canon.specs.declared.comparing.Comparison.{Comparison}
use Rattle.wc_canon.specs.Standard.Input.{IsAccepted, HasFault}
use Rattle.wc_canon.specs.Standard.Comparing.{Compares}
use Rattle.wc_cli.specs.Standard.Telling.{AnswersAsk}
use Rattle.wc_cli.specs.declared.command_line.Ask.{Ask}
use Rattle.wc_cli.specs.declared.telling.Answer.{Answer}
use Rattle.wc_cli.specs.declared.failure.Failure.{Failure}
use Rattle.wc_cli.specs.declared.failure.Failure.TheVariants.{Refused, CannotRead, CannotWrite, NotText}
use Rattle.wc_cli.specs.declared.failure.Failure.TheVariants.{NoSubcommand, Terminal, OutOfMemory}

-- ---- what comes of them

-- an input was read to its end; or it couldn't be read, as unread says, or memory was refused before that was so
abbrev pub Reads : {V : Type 0} → List ℕ → Bool → Result V Failure → Type 0
Reads path unread (Ok v) = unread ≡ false
Reads path unread (Err (Refused p f)) = ⊥
Reads path unread (Err (CannotRead p)) = (p.now ≡ path) × (unread ≡ true)
Reads path unread (Err (CannotWrite p)) = ⊥
Reads path unread (Err NotText) = ⊥
Reads path unread (Err NoSubcommand) = ⊥
Reads path unread (Err Terminal) = ⊥
Reads path unread (Err OutOfMemory) = unread ≡ false

-- a text went out to the standard output, and then one flush, or its first bytes: w is the writer before, and w' behind
-- it
abbrev pub Says : {V W : Type 0} → (W → Option (List ℕ)) → List ℕ → Device W → Device W → Result V Failure → Type 0
Says held text w w' (Ok v) =
    (has_failed w' ≡ false) × Appends (held (device_inner w)) (held (device_inner w')) text × FlushedOnce w w'
Says held text w w' (Err (Refused p f)) = ⊥
Says held text w w' (Err (CannotRead p)) = ⊥
Says held text w w' (Err (CannotWrite (Some p))) = ⊥
Says held text w w' (Err (CannotWrite None)) =
    (has_failed w' ≡ true)
    × ((n : ℕ) × (n ≤ length text) × Appends (held (device_inner w)) (held (device_inner w')) (take n text)
    × FlushedBehindAll n (length text) w w')
Says held text w w' (Err NotText) = ⊥
Says held text w w' (Err NoSubcommand) = ⊥
Says held text w w' (Err Terminal) = ⊥
Says held text w w' (Err OutOfMemory) = ⊥

-- the line that tells of an input with the bytes u, or its refusal, or want of memory
abbrev pub AnswersBytes : Ask → List ℕ → Bool → List ℕ → Result Answer Failure → Type 0
AnswersBytes ask path named u (Ok t) = AnswersAsk ask path named (Some u) t.text.items t.status
AnswersBytes ask path named u (Err (Refused p f)) = (p.now ≡ path) × HasFault u f
AnswersBytes ask path named u (Err (CannotRead p)) = ⊥
AnswersBytes ask path named u (Err (CannotWrite p)) = ⊥
AnswersBytes ask path named u (Err NotText) = ⊥
AnswersBytes ask path named u (Err NoSubcommand) = ⊥
AnswersBytes ask path named u (Err Terminal) = ⊥
AnswersBytes ask path named u (Err OutOfMemory) = ⊤

-- the same of an input, whose bytes are x where they are known, and which couldn't be read where unread says so
abbrev pub Finds : Ask → List ℕ → Bool → Option (List ℕ) → Bool → Result Answer Failure → Type 0
Finds ask path named x unread (Ok t) =
    (unread ≡ false) × AnswersAsk ask path named x t.text.items t.status
Finds ask path named x unread (Err (Refused p f)) =
    (unread ≡ false) × (p.now ≡ path) × IfSome x (λ u. HasFault u f)
Finds ask path named x unread (Err (CannotRead p)) = (p.now ≡ path) × (unread ≡ true)
Finds ask path named x unread (Err (CannotWrite p)) = ⊥
Finds ask path named x unread (Err NotText) = ⊥
Finds ask path named x unread (Err NoSubcommand) = ⊥
Finds ask path named x unread (Err Terminal) = ⊥
Finds ask path named x unread (Err OutOfMemory) = unread ≡ false

-- the failure where the input at the path is refused so
abbrev pub refusal_failure : Bor (List ℕ) → Refusal → Failure
refusal_failure path Memory = OutOfMemory
refusal_failure path f = Refused path f

-- the failure of a call over the input at the path, whose answer goes to the output
abbrev pub run_failure : Bor (List ℕ) → Option (Bor (List ℕ)) → RunFault → Failure
run_failure path output (fault.Refused f) = Refused path f
run_failure path output (fault.Read at) = CannotRead path
run_failure path output (fault.Write written) = CannotWrite output
run_failure path output fault.Memory = OutOfMemory

-- what a comparison of two inputs came to, by their paths: Ends says the same of the whole line
abbrev pub ComparesInputs : List ℕ → List ℕ → Option (List ℕ) → Option (List ℕ) → Bool → Bool
    → Result Comparison Failure → Type 0
ComparesInputs p q x y a b (Ok c) = (a ≡ false) × (b ≡ false) × IfSome x (λ u. IfSome y (λ v. Compares u v c))
ComparesInputs p q x y a b (Err (Refused path f)) =
    (a ≡ false) × (b ≡ false)
    × (((path.now ≡ p) × IfSome x (λ u. HasFault u f))
    ⊎ ((path.now ≡ q) × IfSome x IsAccepted × IfSome y (λ v. HasFault v f)))
ComparesInputs p q x y a b (Err (CannotRead path)) =
    ((path.now ≡ p) × (a ≡ true)) ⊎ ((path.now ≡ q) × (a ≡ false) × (b ≡ true))
ComparesInputs p q x y a b (Err (CannotWrite path)) = ⊥
ComparesInputs p q x y a b (Err NotText) = ⊥
ComparesInputs p q x y a b (Err NoSubcommand) = ⊥
ComparesInputs p q x y a b (Err Terminal) = ⊥
ComparesInputs p q x y a b (Err OutOfMemory) = (a ≡ false) × (b ≡ false)
