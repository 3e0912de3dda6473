-- Parts of fields (Core 1.0, 6.3.3, 6.3.4, 6.4.4 to 6.4.7 and 6.6.4 to 6.6.12).
use Rattle.std.specs.Prelude.{◌≡◌, ℕ, List, [], ◌∷◌, ◌++◌, IsUtf8, true, false, Option, Some, None}
use Rattle.wc_tokens.specs.Standard.Strings.{IsString}
use Rattle.wc_ops.specs.declared.val_type.ValType.{ValType}
use Rattle.wc_ast.specs.declared.limits.Limits.{Limits}
use Rattle.wc_ast.specs.declared.limits.GlobalType.{GlobalType}
use Rattle.wc_ast.specs.declared.export.ExportKind.{ExportKind}
use Rattle.wc_ast.specs.declared.export.ExportKind.TheVariants as export
use Rattle.wc_syntax.specs.declared.kind.Kind.{Kind}
use Rattle.wc_syntax.specs.declared.kind.Kind.TheVariants as kind
use Rattle.wc_syntax.specs.declared.role.Role.TheVariants as role
use Rattle.wc_surface.specs.Standard.Identifiers.{Identifier}
use Rattle.wc_surface.specs.Standard.Written.Indices.{Index}
use Rattle.wc_surface.specs.Standard.Written.Instructions.{Instrs}
use Rattle.wc_surface.specs.Standard.Written.Fields.{Import, Local, Declared}
use Rattle.wc_parse_code.specs.Standard.Tokens.{KeptToken}
use Rattle.wc_parse_code.specs.Standard.Productions.Tokens.{Said, ◌⊳◌, IsIdentifier, IsId, IsNatural, IsIndex}
use Rattle.wc_parse_code.specs.Standard.Productions.Tokens.{IsValueType}
use Rattle.wc_parse_code.specs.Standard.Productions.Instructions.{Says, instrs, foldedinstr}

-- the token is this keyword (6.2.2)
abbrev pub IsKeyword : KeptToken → Kind → Type 0
IsKeyword w k = w.symbol.kind ≡ k

-- name = string, whose bytes are UTF-8 (6.3.4)
pub record IsName (w : KeptToken) (name : List ℕ) : Type 0 where
  pub string : IsString w.text name
  pub utf8 : IsUtf8 name

-- string*: their bytes, one behind the other (6.6.12)
pub data AreStrings : List Said → List ℕ → Type 0 where
  none : AreStrings [] []
  more : {w : KeptToken} {us : List Said} {bytes others : List ℕ} → IsString w.text bytes → AreStrings us others
      → AreStrings (role.Bytes ⊳ w ∷ us) (bytes ++ others)

-- index*: the functions of an element segment (6.6.11)
pub data AreElements : List Said → List Index → Type 0 where
  none : AreElements [] []
  more : {w : KeptToken} {us : List Said} {x : Index} {xs : List Index} → IsIndex w x → AreElements us xs
      → AreElements (role.Element ⊳ w ∷ us) (x ∷ xs)

-- export*, where export = "(" "export" name ")"  (6.6.5 to 6.6.8)
pub data AreExports : List Said → List (List ℕ) → Type 0 where
  none : AreExports [] []
  more : {w : KeptToken} {us : List Said} {name : List ℕ} {names : List (List ℕ)} → IsName w name → AreExports us names
      → AreExports (role.ExportName ⊳ w ∷ us) (name ∷ names)

-- id? export*  (6.6.5 to 6.6.8)
pub data IsDeclared : List Said → Declared → Type 0 where
  both : {us vs : List Said} {i : Option Identifier} {names : List (List ℕ)} → IsId role.FieldId us i
      → AreExports vs names → IsDeclared (us ++ vs) (record { id = i; exports = names })

-- name name, behind this word `import`  (6.6.4)
pub data IsImport (w : KeptToken) : List Said → Import → Type 0 where
  names : {m i : KeptToken} {module_name item_name : List ℕ} → IsName m module_name → IsName i item_name
      → IsImport w (role.ModuleName ⊳ m ∷ role.ItemName ⊳ i ∷ [])
      (record { token = w.token; «module» = module_name; item = item_name })

-- import = "(" "import" name name ")"  (6.6.5 to 6.6.8)
pub data IsInlineImport : List Said → Import → Type 0 where
  word : {w : KeptToken} {us : List Said} {m : Import} → IsImport w us m → IsInlineImport (role.ImportWord ⊳ w ∷ us) m

-- a local with this identifier or none, of the type that this token is
abbrev pub local_at : Option Identifier → ValType → KeptToken → Local
local_at id ty w = record { id = id; ty = ty; token = w.token }

-- valtype*: locals without identifiers (6.6.5)
pub data AreUnnamed : List Said → List Local → Type 0 where
  none : AreUnnamed [] []
  more : {w : KeptToken} {t : ValType} {us : List Said} {ls : List Local} → IsValueType w t → AreUnnamed us ls
      → AreUnnamed (role.LocalType ⊳ w ∷ us) (local_at None t w ∷ ls)

-- local = "(" "local" id valtype ")" | "(" "local" valtype* ")"  (6.6.5)
pub data IsLocal : List Said → List Local → Type 0 where
  one : {i w : KeptToken} {id : Identifier} {t : ValType} → IsIdentifier i id → IsValueType w t
      → IsLocal (role.LocalId ⊳ i ∷ role.LocalType ⊳ w ∷ []) (local_at (Some id) t w ∷ [])
  several : {us : List Said} {ls : List Local} → AreUnnamed us ls → IsLocal us ls

-- local*  (6.6.5)
pub data AreLocals : List Said → List Local → Type 0 where
  none : AreLocals [] []
  more : {us vs : List Said} {ks ls : List Local} → IsLocal us ks → AreLocals vs ls → AreLocals (us ++ vs) (ks ++ ls)

-- limits = u32 u32?  (6.4.4)
pub data AreLimits : List Said → Limits → Type 0 where
  least : {w : KeptToken} {n : ℕ} → IsNatural w n
      → AreLimits (role.LimitsMin ⊳ w ∷ []) (record { min = n; max = None })
  both : {w x : KeptToken} {n m : ℕ} → IsNatural w n → IsNatural x m
      → AreLimits (role.LimitsMin ⊳ w ∷ role.LimitsMax ⊳ x ∷ []) (record { min = n; max = Some m })

-- globaltype = valtype | "(" "mut" valtype ")"  (6.4.7)
pub data IsGlobalType : List Said → GlobalType → Type 0 where
  constant : {w : KeptToken} {t : ValType} → IsValueType w t
      → IsGlobalType (role.GlobalType ⊳ w ∷ []) (record { ty = t; mutable = false })
  variable : {m w : KeptToken} {t : ValType} → IsValueType w t
      → IsGlobalType (role.Mutable ⊳ m ∷ role.GlobalType ⊳ w ∷ []) (record { ty = t; mutable = true })

-- kind = "func" | "table" | "memory" | "global"  (6.6.9)
pub data IsKind : KeptToken → ExportKind → Type 0 where
  func : {w : KeptToken} → IsKeyword w kind.FuncWord → IsKind w export.Func
  table : {w : KeptToken} → IsKeyword w kind.TableWord → IsKind w export.Table
  memory : {w : KeptToken} → IsKeyword w kind.MemoryWord → IsKind w export.Memory
  global : {w : KeptToken} → IsKeyword w kind.GlobalWord → IsKind w export.Global

-- offset = "(" "offset" instr* ")" | foldedinstr  (6.6.11 and 6.6.12); as the short form Core 1.0 has any
-- one instruction, this grammar a folded one alone
pub data IsOffset : List Said → Instrs → Type 0 where
  word : {us : List Said} {c : Instrs} → Says instrs us c → IsOffset us c
  short : {us : List Said} {c : Instrs} → Says foldedinstr us c → IsOffset us c

-- index?: the table or the memory of a segment (6.6.11 and 6.6.12)
pub data IsTarget : List Said → Option Index → Type 0 where
  absent : IsTarget [] None
  there : {w : KeptToken} {x : Index} → IsIndex w x → IsTarget (role.Target ⊳ w ∷ []) (Some x)
