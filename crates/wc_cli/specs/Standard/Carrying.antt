-- What `act` comes to. a, b, w and e are the inputs, the writer of answers and that of faults before it, and a', b', w'
-- and e' behind it; of_a and of_b say which bytes their readers have left, held and told what the writers hold, where
-- they are known.
use Rattle.std.specs.Prelude.{◌≡◌, ℕ, List, Bool, if◌then◌else◌, Option, None, Some, Result}
use denote.Ref.{Bor}
use Rattle.wc_device.specs.declared.io_device.Device.{Device}
use Rattle.wc_device.specs.Standard.Device.{has_failed, was_asked_again}
use Rattle.wc_cli.specs.declared.command_line.Line.{Line}
use Rattle.wc_cli.specs.declared.command_line.Line.TheVariants.{Make, Tell, Compare}
use Rattle.wc_cli.specs.declared.failure.Failure.{Failure}
use Rattle.wc_cli.specs.declared.failure.Failure.TheVariants.{CannotRead, CannotWrite}
use Rattle.wc_cli.specs.Standard.Inputs.{input_bytes, is_unread, is_new_input, IsNewInput}
use Rattle.wc_cli.specs.Standard.Failing.{Reports}
use Rattle.wc_cli.specs.Standard.Acting.{Ends, IsTold}
use Rattle.wc_cli.specs.Standard.Looking.{LooksAt}

-- ---- what was used before

-- the inputs that a line asks for are new
abbrev pub AreNew : {R S : Type 0} → Line → Option (Device R) → Option (Device S) → Type 0
AreNew (Make job input output) a b = IsNewInput a
AreNew (Tell ask input named) a b = IsNewInput a
AreNew (Compare p q) a b = IsNewInput a × IsNewInput b

-- an input that isn't new counts as one that can't be read, and a writer that failed as one that can't be written
abbrev pub used_alone : Bor (List ℕ) → Option (Bor (List ℕ)) → Bool → Bool → Option Failure
used_alone path output is_new failed =
    if is_new then (if failed then Some (CannotWrite output) else None) else Some (CannotRead path)

-- the failure of a line one of whose inputs isn't new, or whose writer failed before; none where there is none such
abbrev pub used_before : Line → Bool → Bool → Bool → Option Failure
used_before (Make job input output) is_new_a is_new_b failed = used_alone input output is_new_a failed
used_before (Tell ask input named) is_new_a is_new_b failed = used_alone input None is_new_a failed
used_before (Compare p q) is_new_a is_new_b failed =
    if is_new_a then used_alone q None is_new_b failed else Some (CannotRead p)

-- ---- what came of it

module _ {R S W E : Type 0} (of_a : R → Option (List ℕ)) (of_b : S → Option (List ℕ)) (held : W → Option (List ℕ))
    (told : E → Option (List ℕ)) where
  -- the whole answer went out, or there is one failure, which the inputs, the readers and the writers decide but for
  -- want of memory; and just that is told. Nothing of w is asked behind its failure
  abbrev pub CarriesOut : Line → ℕ → Option (Device R) → Option (Device R) → Option (Device S) → Option (Device S)
      → Device W → Device W → Device E → Device E → Type 0
  CarriesOut line status a a' b b' w w' e e' =
      (ending : Result ℕ Failure)
      × Ends held line (input_bytes of_a a) (input_bytes of_b b) (is_unread a') (is_unread b') w w' ending
      × LooksAt of_a of_b line a a' b b' ending
      × IsTold told ending status e e'
      × (was_asked_again w' ≡ was_asked_again w)

  -- of what was used before: the failure is told, and nothing else happens
  abbrev pub ComesTo : Option Failure → Line → ℕ → Option (Device R) → Option (Device R) → Option (Device S)
      → Option (Device S) → Device W → Device W → Device E → Device E → Type 0
  ComesTo (Some f) line status a a' b b' w w' e e' =
      (a' ≡ a) × (b' ≡ b) × (w' ≡ w) × Reports told f status e e'
  ComesTo None line status a a' b b' w w' e e' = CarriesOut line status a a' b b' w w' e e'

  -- what comes of a line
  abbrev pub Acts : Line → ℕ → Option (Device R) → Option (Device R) → Option (Device S) → Option (Device S)
      → Device W → Device W → Device E → Device E → Type 0
  Acts line status a a' b b' w w' e e' =
      ComesTo (used_before line (is_new_input a) (is_new_input b) (has_failed w)) line status a a' b b' w w' e e'
