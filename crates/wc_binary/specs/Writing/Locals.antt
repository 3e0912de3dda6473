-- The canonical bytes of the locals that a function declares, and which locals have them (Core 1.0, 5.5.13).
use Rattle.std.specs.Prelude.{ℕ, ◌+◌, ◌≤◌, Bool, true, false, List, [], ◌∷◌, ◌++◌, length, if◌then◌else◌}
use Rattle.wc_leb128.specs.Writing.Bytes.{unsigned_bytes}
use Rattle.wc_ops.specs.declared.val_type.ValType.{ValType}
use Rattle.wc_ops.specs.declared.val_type.ValType.TheVariants.{I32, I64}
use Rattle.wc_ast.specs.declared.locals.Group.{Group}
use Rattle.wc_ast.specs.Standard.LocalGroups.{locals_limit}
use Rattle.wc_body.specs.Standard.ValueBytes.{vector_bytes, value_type_bytes}

-- are the types the same
abbrev pub same_type : ValType → ValType → Bool
same_type I32 I32 = true
same_type I32 I64 = false
same_type I64 I32 = false
same_type I64 I64 = true

-- so many locals of this type
abbrev pub group_of : ℕ → ValType → Group
group_of n t = record { count = n; value_type = t }

-- so many locals of one type before these groups: the first group is made larger where it has the type
abbrev pub added : ℕ → ValType → List Group → List Group
added n t [] = group_of n t ∷ []
added n t (g ∷ gs) = if same_type t g.value_type then group_of (n + g.count) t ∷ gs else group_of n t ∷ g ∷ gs

-- the fewest groups
abbrev pub merged : List ValType → List Group
merged [] = []
merged (t ∷ ts) = added 1 t (merged ts)

-- a group: how many, and the type of each
abbrev pub group_bytes : Group → List ℕ
group_bytes g = unsigned_bytes g.count ++ value_type_bytes g.value_type

-- declared locals, in as few groups as can be
abbrev pub locals_bytes : List ValType → List ℕ
locals_bytes ts = vector_bytes group_bytes (merged ts)

-- no more locals than may be
abbrev pub FitsLocals : List ValType → Type 0
FitsLocals ts = length ts ≤ locals_limit
