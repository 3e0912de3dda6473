-- A code that lies ahead, and is added to others at once (Core 1.0, 5.5.13).
use Rattle.std.specs.Prelude.{◌≡◌, ◌<◌, ◌≤◌, ℕ, suc, List, [], ◌∷◌, ◌++◌, length, take, Option, Some, None}
use Rattle.wc_ast.specs.declared.codes.FuncCode.{FuncCode}
use Rattle.wc_binary.specs.Writing.Contents.{code_bytes, FitsCode}

-- the bytes begin with a size of one byte, no group of locals, and then as many bytes as the size leaves
abbrev pub BeginsBare : List ℕ → List ℕ → Type 0
BeginsBare x body = (rest : List ℕ) × (x ≡ suc (length body) ∷ 0 ∷ (body ++ rest)) × (suc (length body) < 128)

-- the code was put behind the others whose canonical bytes are so many of these; or none was
abbrev pub AddsCode : List FuncCode → List FuncCode → List ℕ → Option ℕ → Type 0
AddsCode row after x None = after ≡ row
AddsCode row after x (Some n) =
    (f : FuncCode) × (n ≤ length x) × (take n x ≡ code_bytes f) × FitsCode f × (after ≡ row ++ f ∷ [])
