-- Steps on the way to an answer: what a module is refused for, and how far a reader was read.
use Rattle.std.specs.Prelude.{◌≡◌, ℕ, List, length, Bool, true, false, Option, IfSome, Result, Ok, Err, ⊤}
use Rattle.wc_ast.specs.declared.module.Module.{Module}
use Rattle.wc_binary.specs.Standard.Module.{Bin, Canon}
use Rattle.wc_canon.specs.declared.fault.Refusal.{Refusal}
use Rattle.wc_canon.specs.declared.fault.Refusal.TheVariants.{Binary, Lex, Syntax, Names, Check, Oversize}
use Rattle.wc_canon.specs.declared.fault.Refusal.TheVariants.{Memory as NoMemory}
use Rattle.wc_canon.specs.declared.fault.RunFault.{RunFault}
use Rattle.wc_canon.specs.declared.from_reader.Found.{Found}
use Rattle.wc_canon.specs.Standard.Input.{is_binary, Denotes, KeepsRules, BreaksFirst}
use Rattle.wc_canon.specs.Standard.Run.{Judges, RefusesNear}

-- a module that is refused is refused so: by the first rule that it breaks, or where it breaks none and no bytes spell
-- it
abbrev pub IsModuleFault : Module → Refusal → Type 0
IsModuleFault m (Binary at why) = ⊥
IsModuleFault m (Lex at why) = ⊥
IsModuleFault m (Syntax token at why) = ⊥
IsModuleFault m (Names token at why) = ⊥
IsModuleFault m (Check item why) = BreaksFirst m item why
IsModuleFault m Oversize = KeepsRules m × ((b : List ℕ) → Bin b m → ⊥)
IsModuleFault m NoMemory = ⊤

-- some bytes spell the module; of a binary this isn't asked, since its own bytes do
abbrev pub IsSized : Bool → Module → Type 0
IsSized true m = ⊤
IsSized false m = (b : List ℕ) × Canon b m

-- the module of the input and whether this is a binary, where its bytes are known; or f is its fault, where they are
abbrev pub JudgesModule : Option (List ℕ) → Result Found RunFault → Type 0
JudgesModule input r =
    Judges input (λ found. IfSome input (λ x. Denotes x found.«module» × (found.binary ≡ is_binary x))) r

-- a module was answered after all bytes, and a fault as RefusesNear says
abbrev pub ReadsNear : {V : Type 0} → ℕ → Result V RunFault → List ℕ → Type 0
ReadsNear count (Ok v) x = count ≡ length x
ReadsNear count (Err f) x = RefusesNear count f x
