-- What encoding answers.
use Rattle.std.specs.Prelude.{◌≡◌, ℕ, List, length, Option, Some, None, Result, Ok, Err, ⊤}
use Rattle.std.specs.Global.{Vec}
use Rattle.wc_ast.specs.declared.module.Module.{Module}
use Rattle.wc_binary.specs.declared.fault.EncFault.{EncFault}
use Rattle.wc_binary.specs.declared.fault.EncFault.TheVariants.{Oversize, Memory}
use Rattle.wc_binary.specs.Standard.Module.{Bin, Canon, IsShortestOf}

-- the canonical bytes of the module, which are its shortest and only ones of that length; or no bytes spell it
abbrev pub EncodesModule : Module → Result (Vec ℕ) EncFault → Type 0
EncodesModule m (Ok v) = Canon v.items m × IsShortestOf v.items m
EncodesModule m (Err Oversize) = (b : List ℕ) → Bin b m → ⊥
EncodesModule m (Err Memory) = ⊤

-- how many bytes the canonical ones of the module are; or no bytes spell it
abbrev pub HasLength : Module → Option ℕ → Type 0
HasLength m (Some n) = (b : List ℕ) × Canon b m × (n ≡ length b)
HasLength m None = (b : List ℕ) → Bin b m → ⊥
