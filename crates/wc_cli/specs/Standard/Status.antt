-- What an exit status says of the inputs, where their bytes are known.
use Rattle.std.specs.Prelude.{◌≡◌, ◌⊎◌, ℕ, List, Option, IfSome}
use Rattle.wc_canon.specs.declared.fault.Refusal.{Refusal}
use Rattle.wc_canon.specs.Standard.Input.{IsAccepted, HasFault}
use Rattle.wc_canon.specs.Standard.Comparing.{IsSame, IsDifferent}
use Rattle.wc_canon.specs.Standard.Fixed.{IsCanonical, IsNotCanonical}
use Rattle.wc_cli.specs.declared.command_line.Ask.{Ask}
use Rattle.wc_cli.specs.declared.command_line.Ask.TheVariants.{Check, Canonical, Hash}
use Rattle.wc_cli.specs.declared.command_line.Line.{Line}
use Rattle.wc_cli.specs.declared.command_line.Line.TheVariants.{Make, Tell, Compare}

-- 0: x is accepted; 1: it is refused
abbrev pub TellsInput : ℕ → List ℕ → Type 0
TellsInput status x = (status ≡ 0 → IsAccepted x) × (status ≡ 1 → (f : Refusal) × HasFault x f)

-- the same, where it is asked whether x is canonical. 0: it is; 1: it is refused, or accepted and not canonical
abbrev pub TellsAsk : Ask → ℕ → List ℕ → Type 0
TellsAsk Check status x = TellsInput status x
TellsAsk Canonical status x =
    (status ≡ 0 → IsCanonical x) × (status ≡ 1 → IsNotCanonical x ⊎ ((f : Refusal) × HasFault x f))
TellsAsk Hash status x = TellsInput status x

-- 0: x and y are the same module; 1: they are different ones, or one of them is refused
abbrev pub TellsPair : ℕ → List ℕ → List ℕ → Type 0
TellsPair status x y =
    (status ≡ 0 → IsSame x y) × (status ≡ 1 → IsDifferent x y ⊎ ((f : Refusal) × (HasFault x f ⊎ HasFault y f)))

-- a status of a line
abbrev pub TellsLine : Line → ℕ → Option (List ℕ) → Option (List ℕ) → Type 0
TellsLine (Make job input output) status x y = IfSome x (TellsInput status)
TellsLine (Tell ask input named) status x y = IfSome x (TellsAsk ask status)
TellsLine (Compare a b) status x y = IfSome x (λ u. IfSome y (TellsPair status u))
