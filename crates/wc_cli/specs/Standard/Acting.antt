-- What carrying out a line comes to. x and y are the bytes of its inputs, where they are known; a and b say whether an
-- input couldn't be read.
use Rattle.std.specs.Prelude.{◌≡◌, ◌⊎◌, ℕ, ◌≤◌, List, length, take, codes, Bool, true, false}
use Rattle.std.specs.Prelude.{Option, None, IfSome, Result, Ok, Err}
use Rattle.std.specs.Io.KnownBytes.{Appends}
use denote.Ref.{Bor}
use Rattle.wc_device.specs.declared.io_device.Device.{Device}
use Rattle.wc_device.specs.Standard.Device.{device_inner, has_failed, FlushedOnce, FlushedBehindAll}
use Rattle.wc_canon.specs.declared.fault.Refusal.{Refusal}
use Rattle.wc_canon.specs.Standard.Input.{IsAccepted, HasFault}
use Rattle.wc_canon.specs.Standard.Comparing.{IsSame, IsDifferent}
use Rattle.wc_canon.specs.Standard.Run.{IsOutputOf, HasSameAnswer}
use Rattle.wc_canon.specs.declared.running.Job.{Job}
use Rattle.wc_canon.specs.declared.running.Job.TheVariants.{Binary, Text}
use Rattle.wc_tokens.specs.Standard.Lexemes.{longest}
use Rattle.wc_cli.specs.declared.command_line.Line.{Line}
use Rattle.wc_cli.specs.declared.command_line.Line.TheVariants.{Make, Tell, Compare}
use Rattle.wc_cli.specs.declared.failure.Failure.{Failure}
use Rattle.wc_cli.specs.declared.failure.Failure.TheVariants.{Refused, CannotRead, CannotWrite, NotText}
use Rattle.wc_cli.specs.declared.failure.Failure.TheVariants.{NoSubcommand, Terminal, OutOfMemory}
use Rattle.wc_cli.specs.Standard.Failing.{Reports}
use Rattle.wc_cli.specs.Standard.Telling.{AnswersAsk, word_line}

-- ---- what a line asks for

-- P holds of the bytes of both inputs, where they are known
abbrev pub IfBoth : Option (List ℕ) → Option (List ℕ) → (List ℕ → List ℕ → Type 0) → Type 0
IfBoth x y P = IfSome x (λ u. IfSome y (P u))

-- what is made of an input. A text of a module has the input's answer again, where it isn't longer than a text may be
abbrev pub IsMade : Job → Option (List ℕ) → List ℕ → Type 0
IsMade Binary x text = IsOutputOf Binary x text
IsMade Text x text = IsOutputOf Text x text × (length text ≤ longest → HasSameAnswer x text)

-- the text that answers a line, and its status
abbrev pub IsAnswer : Line → Option (List ℕ) → Option (List ℕ) → List ℕ → ℕ → Type 0
IsAnswer (Make job input output) x y text status = IsMade job x text × (status ≡ 0)
IsAnswer (Tell ask input named) x y text status = AnswersAsk ask input.now named x text status
IsAnswer (Compare p q) x y text status =
    (IfBoth x y IsSame × (text ≡ word_line (codes "same")) × (status ≡ 0))
    ⊎ (IfBoth x y IsDifferent × (text ≡ word_line (codes "different")) × (status ≡ 1))

-- the input at the path is refused for f: the first one of a line that is
abbrev pub IsRefusedAt : Line → Option (List ℕ) → Option (List ℕ) → List ℕ → Refusal → Type 0
IsRefusedAt (Make job input output) x y path f = (path ≡ input.now) × IfSome x (λ u. HasFault u f)
IsRefusedAt (Tell ask input named) x y path f = (path ≡ input.now) × IfSome x (λ u. HasFault u f)
IsRefusedAt (Compare p q) x y path f =
    ((path ≡ p.now) × IfSome x (λ u. HasFault u f))
    ⊎ ((path ≡ q.now) × IfSome x IsAccepted × IfSome y (λ v. HasFault v f))

-- the input at the path couldn't be read: the first one of a line that couldn't
abbrev pub IsUnreadAt : Line → Bool → Bool → List ℕ → Type 0
IsUnreadAt (Make job input output) a b path = (path ≡ input.now) × (a ≡ true)
IsUnreadAt (Tell ask input named) a b path = (path ≡ input.now) × (a ≡ true)
IsUnreadAt (Compare p q) a b path = ((path ≡ p.now) × (a ≡ true)) ⊎ ((path ≡ q.now) × (a ≡ false) × (b ≡ true))

-- each input of a line could be read
abbrev pub AreRead : Line → Bool → Bool → Type 0
AreRead (Make job input output) a b = a ≡ false
AreRead (Tell ask input named) a b = a ≡ false
AreRead (Compare p q) a b = (a ≡ false) × (b ≡ false)

-- where the answer goes: a path, or none for the standard output
abbrev pub goes_to : Line → Option (Bor (List ℕ))
goes_to (Make job input output) = output
goes_to (Tell ask input named) = None
goes_to (Compare p q) = None

-- the answer are bytes that aren't text, and goes to the standard output
abbrev pub is_raw : Line → Bool
is_raw (Make Binary input None) = true
is_raw line = false

-- ---- what came of it

-- the status once the whole answer went out, and then one flush, or the failure: w is the writer of answers before, and
-- w' behind it; held says which bytes it holds, where they are known. Where there is no answer, nothing of it was asked
abbrev pub Ends : {W : Type 0} → (W → Option (List ℕ)) → Line → Option (List ℕ) → Option (List ℕ) → Bool → Bool
    → Device W → Device W → Result ℕ Failure → Type 0
Ends held line x y a b w w' (Ok status) =
    AreRead line a b × (has_failed w' ≡ false)
    × ((text : List ℕ) × IsAnswer line x y text status × Appends (held (device_inner w)) (held (device_inner w')) text)
    × FlushedOnce w w'
Ends held line x y a b w w' (Err (Refused path f)) =
    AreRead line a b × (w' ≡ w) × IsRefusedAt line x y path.now f
Ends held line x y a b w w' (Err (CannotRead path)) = IsUnreadAt line a b path.now × (w' ≡ w)
Ends held line x y a b w w' (Err (CannotWrite path)) =
    AreRead line a b × (has_failed w' ≡ true) × (path ≡ goes_to line)
    × ((text : List ℕ) × (status n : ℕ) × IsAnswer line x y text status × (n ≤ length text)
    × Appends (held (device_inner w)) (held (device_inner w')) (take n text) × FlushedBehindAll n (length text) w w')
Ends held line x y a b w w' (Err NotText) = ⊥
Ends held line x y a b w w' (Err NoSubcommand) = ⊥
Ends held line x y a b w w' (Err Terminal) = ⊥
Ends held line x y a b w w' (Err OutOfMemory) = AreRead line a b × (w' ≡ w)

-- the same is told: the status alone, and nothing of the writer of faults is asked; or the failure by its status and
-- its line. e is that writer before, and e' behind it
abbrev pub IsTold : {E : Type 0} → (E → Option (List ℕ)) → Result ℕ Failure → ℕ → Device E → Device E → Type 0
IsTold held (Ok s) status e e' = (status ≡ s) × (e' ≡ e)
IsTold held (Err f) status e e' = Reports held f status e e'
