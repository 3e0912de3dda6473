-- A body that is added to others by the bytes that it is spelled by.
use Rattle.std.specs.Prelude.{◌≡◌, ℕ, Bool, true, false, List, [], ◌∷◌, ◌++◌}
use Rattle.wc_body.specs.declared.instr.BlockType.{BlockType}
use Rattle.wc_body.specs.declared.instr.Instr.{Instr}
use Rattle.wc_body.specs.Standard.Nested.{Code}
use Rattle.wc_body.specs.Standard.InstructionBytes.{expr_bytes, FitsExpr}

-- the body was put behind the others whose canonical bytes these are, those of its end too (Core 1.0, 5.4.6); or none
-- was
abbrev pub AddsSpelled : List (Code Instr BlockType) → List (Code Instr BlockType) → List ℕ → Bool → Type 0
AddsSpelled row after x false = after ≡ row
AddsSpelled row after x true =
    (c : Code Instr BlockType) × (x ≡ expr_bytes c) × FitsExpr c × (after ≡ row ++ c ∷ [])
