-- What private writers do.
use Rattle.std.specs.Prelude.{◌≡◌, ℕ, ◌+◌, ◌*◌, ◌-◌, ◌^◌, ◌≤◌, min, List, ◌++◌, Option, Some, None, Result, Ok, Err, ⊤}
use Rattle.wc_binary.specs.declared.fault.EncFault.{EncFault}
use Rattle.wc_binary.specs.declared.fault.EncFault.TheVariants.{Oversize, Memory}

-- these bytes were written behind the old ones, where they fit; or they don't
abbrev pub Writes : Type 0 → List ℕ → List ℕ → List ℕ → Result (Unit {0}) EncFault → Type 0
Writes Fits old new bytes (Ok u) = Fits × (new ≡ old ++ bytes)
Writes Fits old new bytes (Err Oversize) = Fits → ⊥
Writes Fits old new bytes (Err Memory) = ⊤

-- so many bytes would be written, as far as a u64 tells, where they fit; or they don't
abbrev pub Measures : Type 0 → ℕ → Option ℕ → Type 0
Measures Fits count (Some size) = Fits × (size ≡ min count (2 ^ 64 - 1))
Measures Fits count None = Fits → ⊥

-- exactly so many, and no more than the limit
abbrev pub MeasuresWithin : ℕ → Type 0 → ℕ → Option ℕ → Type 0
MeasuresWithin limit Fits count (Some size) = Fits × (size ≡ count) × (size ≤ limit)
MeasuresWithin limit Fits count None = Fits → ⊥

-- the most bytes that a section takes: its id, a size of five bytes, and the content
abbrev pub section_limit : ℕ
section_limit = 1 + 5 + (2 ^ 32 - 1)

-- the most that the eleven sections take
abbrev pub sections_limit : ℕ
sections_limit = 11 * section_limit
