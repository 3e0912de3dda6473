-- What decoding answers.
use Rattle.std.specs.Prelude.{◌≡◌, ◌⊎◌, ℕ, ◌+◌, ◌≤◌, Bool, true, false, List, length}
use Rattle.std.specs.Prelude.{take, Result, Ok, Err, MatchResult, ⊤}
use Rattle.wc_binary.specs.declared.fault.BinWhy.{BinWhy}
use Rattle.wc_binary.specs.declared.fault.BinWhy.TheVariants.{End, Counts}
use Rattle.wc_device.specs.Standard.Device.{buffer_size}
use Rattle.wc_ast.specs.declared.module.Module.{Module}
use Rattle.wc_binary.specs.declared.fault.BinFault.{BinFault}
use Rattle.wc_binary.specs.declared.fault.BinFault.TheVariants.{Bad, Read, Memory}
use Rattle.wc_binary.specs.Standard.Phrase.{halt}
use Rattle.wc_binary.specs.Standard.Module.{Bin, StopB, FirstFault}

-- the bytes are read as a module: the one that they spell, or their first fault
abbrev pub Decodes : List ℕ → Result Module BinFault → Type 0
Decodes x (Ok m) = Bin x m
Decodes x (Err (Bad at why)) = FirstFault x at why
Decodes x (Err (Read at)) = ⊤
Decodes x (Err Memory) = ⊤

-- memory was refused or the reader failed, so the bytes weren't judged
abbrev pub IsHindered : BinFault → Type 0
IsHindered (Bad at why) = ⊥
IsHindered (Read at) = ⊤
IsHindered Memory = ⊤

-- where the bytes spell a module, it is the answer, unless reading was hindered
abbrev pub DecodesOnly : List ℕ → Result Module BinFault → Type 0
DecodesOnly x r = (m : Module) → Bin x m → MatchResult r (λ n. n ≡ m) (λ e. IsHindered e)

-- where they have a first fault, it is the answer, unless reading was hindered
abbrev pub DecodesOnlyFault : List ℕ → Result Module BinFault → Type 0
DecodesOnlyFault x r =
    (at : ℕ) (why : BinWhy) → FirstFault x at why → MatchResult r (λ n. ⊥) (λ e. IsHindered e ⊎ (e ≡ Bad at why))

-- a fault was told after at most so many bytes more than those behind which it showed, and a module after all bytes
abbrev pub DecodesNear : ℕ → List ℕ → Result Module BinFault → Type 0
DecodesNear count x (Ok m) = count ≡ length x
DecodesNear count x (Err (Bad at why)) = (taken : ℕ) × StopB x (halt at why taken) × (count ≤ taken + buffer_size)
DecodesNear count x (Err (Read at)) = ⊤
DecodesNear count x (Err Memory) = ⊤

-- did the reader fail
abbrev pub is_read_fault : {A : Type 0} → Result A BinFault → Bool
is_read_fault (Err (Read at)) = true
is_read_fault _ = false

-- nothing is wrong with the bytes but that they may go on: they spell a module up to this place, which is their end, or
-- their first fault is there, a missing byte or the numbers of functions and bodies
abbrev pub IsCutShort : List ℕ → ℕ → Type 0
IsCutShort x at =
    ((m : Module) × Bin x m × (at ≡ length x)) ⊎ (FirstFault x at End ⊎ FirstFault x at Counts)

-- a failed read was told, and no fault of the bytes that were read before it, which are those up to its place
abbrev pub DecodesCut : List ℕ → Result Module BinFault → Type 0
DecodesCut x (Ok m) = ⊤
DecodesCut x (Err (Bad at why)) = ⊤
DecodesCut x (Err (Read at)) = IsCutShort (take at x) at
DecodesCut x (Err Memory) = ⊤
