-- What a row of codes keeps: the groups of all locals, and of each code how many they are; and the bodies.
use Rattle.std.specs.Prelude.{◌≡◌, ◌≤◌, List, [], ◌∷◌, length, take, drop}
use Rattle.wc_body.specs.declared.instr.BlockType.{BlockType}
use Rattle.wc_body.specs.declared.instr.Instr.{Instr}
use Rattle.wc_body.specs.Standard.Nested.{Code}
use Rattle.wc_ast.specs.declared.locals.Group.{Group}
use Rattle.wc_ast.specs.declared.codes.Span.{Span}
use Rattle.wc_ast.specs.declared.codes.FuncCode.{FuncCode}
use Rattle.wc_ast.specs.Standard.LocalGroups.{written_out}
use Rattle.wc_ast.specs.Standard.Codes.{code}
use Rattle.wc_ast.specs.Kept.Locals.{IsLocals}

-- the codes whose groups stand one after the other
abbrev pub codes_at : List Span → List Group → List (Code Instr BlockType) → List FuncCode
codes_at [] g bs = []
codes_at (s ∷ ss) g [] = []
codes_at (s ∷ ss) g (b ∷ bs) = code (written_out (take s.groups g)) b ∷ codes_at ss (drop s.groups g) bs

-- the groups are those of codes, one after the other, and of no more, and there are as many bodies
abbrev pub AreCodes : List Span → List Group → List (Code Instr BlockType) → Type 0
AreCodes [] g bs = (g ≡ []) × (bs ≡ [])
AreCodes (s ∷ ss) g [] = ⊥
AreCodes (s ∷ ss) g (b ∷ bs) =
    (s.groups ≤ length g) × IsLocals (take s.groups g) s.total × AreCodes ss (drop s.groups g) bs
