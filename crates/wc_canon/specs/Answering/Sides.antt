-- What is known of one side of a comparison of two readers: x are its bytes, where they are known.
use Rattle.std.specs.Prelude.{◌≡◌, ◌≢◌, ℕ, List, Vec, Option, IfSome, Result, Ok, Err, ⊤}
use Rattle.std.specs.Global.{Global}
use Rattle.wc_canon.specs.declared.comparing.Comparison.{Comparison}
use Rattle.wc_canon.specs.declared.comparing.Comparison.TheVariants.{Same, Different}
use Rattle.wc_canon.specs.declared.fault.Refusal.{Refusal}
use Rattle.wc_canon.specs.declared.fault.RunFault.{RunFault}
use Rattle.wc_canon.specs.declared.fault.RunFault.TheVariants.{Refused, Read, Write, Memory}
use Rattle.wc_canon.specs.Standard.Input.{HasFault}
use Rattle.wc_canon.specs.Standard.Run.{IsAnswerOf}

-- its canonical bytes, or its first fault
abbrev pub IsJudgedFrom : Option (List ℕ) → Result (Vec ℕ Global) Refusal → Type 0
IsJudgedFrom x (Ok v) = IsAnswerOf x v.items
IsJudgedFrom x (Err f) = IfSome x (λ u. HasFault u f)

-- a read failed, or memory was refused
abbrev pub IsUnjudged : RunFault → Type 0
IsUnjudged (Refused f) = ⊥
IsUnjudged (Read at) = ⊤
IsUnjudged (Write written) = ⊥
IsUnjudged Memory = ⊤

-- what two lists of bytes are to each other
abbrev pub ComparesBytes : List ℕ → List ℕ → Comparison → Type 0
ComparesBytes x y Same = x ≡ y
ComparesBytes x y Different = x ≢ y
