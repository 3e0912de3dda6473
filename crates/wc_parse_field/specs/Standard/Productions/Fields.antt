-- Fields, and a text of them (Core 1.0, 6.6.2 to 6.6.13).
use Rattle.std.specs.Prelude.{ℕ, List, [], ◌∷◌, ◌++◌, Option}
use Rattle.wc_ast.specs.declared.limits.Limits.{Limits}
use Rattle.wc_ast.specs.declared.limits.GlobalType.{GlobalType}
use Rattle.wc_ast.specs.declared.export.ExportKind.{ExportKind}
use Rattle.wc_syntax.specs.declared.kind.Kind.TheVariants as kind
use Rattle.wc_syntax.specs.declared.role.Role.TheVariants as role
use Rattle.wc_surface.specs.Standard.Identifiers.{Identifier}
use Rattle.wc_surface.specs.Standard.Written.Indices.{Index}
use Rattle.wc_surface.specs.Standard.Written.TypeUses.{Signature, TypeUse}
use Rattle.wc_surface.specs.Standard.Written.Instructions.{Instrs}
use Rattle.wc_surface.specs.Standard.Written.Fields.{Import, Local, Desc, Function, Table, Memory, Global, Declared}
use Rattle.wc_surface.specs.Standard.Written.Fields.{Field, type_field, import_field, func_field, table_field}
use Rattle.wc_surface.specs.Standard.Written.Fields.{memory_field, global_field, export_field, start_field, elem_field}
use Rattle.wc_surface.specs.Standard.Written.Fields.{data_field}
use Rattle.wc_parse_code.specs.Standard.Tokens.{KeptToken}
use Rattle.wc_parse_code.specs.Standard.Productions.Tokens.{Said, ◌⊳◌, IsId, IsIndex}
use Rattle.wc_parse_code.specs.Standard.Productions.TypeUses.{IsSignature, IsTypeUse}
use Rattle.wc_parse_code.specs.Standard.Productions.Instructions.{Says, instrs}
use Rattle.wc_parse_field.specs.Standard.Productions.Parts.{IsKeyword, IsName, AreStrings, AreElements, IsDeclared}
use Rattle.wc_parse_field.specs.Standard.Productions.Parts.{IsImport, IsInlineImport, AreLocals, AreLimits}
use Rattle.wc_parse_field.specs.Standard.Productions.Parts.{IsGlobalType, IsKind, IsOffset, IsTarget}

-- desc = "func" id? typeuse | "table" id? tabletype | "memory" id? limits | "global" id? globaltype  (6.6.4)
pub data IsDesc : List Said → Option Identifier → Desc → Type 0 where
  func : {w : KeptToken} {us vs : List Said} {i : Option Identifier} {u : TypeUse} → IsKeyword w kind.FuncWord
      → IsId role.FieldId us i → IsTypeUse vs u → IsDesc (role.Description ⊳ w ∷ us ++ vs) i (Desc.func u)
  table : {w : KeptToken} {us vs : List Said} {i : Option Identifier} {l : Limits} → IsKeyword w kind.TableWord
      → IsId role.FieldId us i → AreLimits vs l → IsDesc (role.Description ⊳ w ∷ us ++ vs) i (Desc.table l)
  memory : {w : KeptToken} {us vs : List Said} {i : Option Identifier} {l : Limits} → IsKeyword w kind.MemoryWord
      → IsId role.FieldId us i → AreLimits vs l → IsDesc (role.Description ⊳ w ∷ us ++ vs) i (Desc.memory l)
  global : {w : KeptToken} {us vs : List Said} {i : Option Identifier} {g : GlobalType} → IsKeyword w kind.GlobalWord
      → IsId role.FieldId us i → IsGlobalType vs g → IsDesc (role.Description ⊳ w ∷ us ++ vs) i (Desc.global g)

-- import typeuse | typeuse local* instr*  (6.6.5)
pub data IsFunction : List Said → Function → Type 0 where
  imported : {us vs : List Said} {m : Import} {u : TypeUse} → IsInlineImport us m → IsTypeUse vs u
      → IsFunction (us ++ vs) (Function.imported m u)
  code : {us vs ws : List Said} {u : TypeUse} {ls : List Local} {c : Instrs} → IsTypeUse us u → AreLocals vs ls
      → Says instrs ws c → IsFunction (us ++ vs ++ ws) (Function.code u ls c)

-- import tabletype | tabletype | "funcref" "(" "elem" index* ")"  (6.6.6)
pub data IsTable : List Said → Table → Type 0 where
  imported : {us vs : List Said} {m : Import} {l : Limits} → IsInlineImport us m → AreLimits vs l
      → IsTable (us ++ vs) (Table.imported m l)
  limits : {us : List Said} {l : Limits} → AreLimits us l → IsTable us (Table.limits l)
  elements : {w : KeptToken} {us : List Said} {xs : List Index} → AreElements us xs
      → IsTable (role.Segment ⊳ w ∷ us) (Table.elements xs)

-- import limits | limits | "(" "data" string* ")"  (6.6.7)
pub data IsMemory : List Said → Memory → Type 0 where
  imported : {us vs : List Said} {m : Import} {l : Limits} → IsInlineImport us m → AreLimits vs l
      → IsMemory (us ++ vs) (Memory.imported m l)
  limits : {us : List Said} {l : Limits} → AreLimits us l → IsMemory us (Memory.limits l)
  bytes : {w : KeptToken} {us : List Said} {bytes : List ℕ} → AreStrings us bytes
      → IsMemory (role.Segment ⊳ w ∷ us) (Memory.bytes bytes)

-- import globaltype | globaltype instr*  (6.6.8)
pub data IsGlobal : List Said → Global → Type 0 where
  imported : {us vs : List Said} {m : Import} {g : GlobalType} → IsInlineImport us m → IsGlobalType vs g
      → IsGlobal (us ++ vs) (Global.imported m g)
  init : {us vs : List Said} {g : GlobalType} {c : Instrs} → IsGlobalType us g → Says instrs vs c
      → IsGlobal (us ++ vs) (Global.init g c)

-- what stands behind this word of a field, and the field that it says  (6.6.2 to 6.6.12)
pub data IsField (w : KeptToken) : List Said → Field → Type 0 where
  -- "type" id? functype  (6.6.2)
  type_word : {us vs : List Said} {i : Option Identifier} {s : Signature} → IsKeyword w kind.TypeWord
      → IsId role.FieldId us i → IsSignature vs s → IsField w (us ++ vs) (type_field i s)
  -- "import" name name "(" desc ")"  (6.6.4)
  import_word : {us vs : List Said} {m : Import} {i : Option Identifier} {d : Desc} → IsKeyword w kind.ImportWord
      → IsImport w us m → IsDesc vs i d → IsField w (us ++ vs) (import_field m i d)
  -- "func" id? export* ( import typeuse | typeuse local* instr* )  (6.6.5)
  func_word : {us vs : List Said} {d : Declared} {f : Function} → IsKeyword w kind.FuncWord → IsDeclared us d
      → IsFunction vs f → IsField w (us ++ vs) (func_field w.token d f)
  -- "table" id? export* ( import tabletype | tabletype | "funcref" "(" "elem" index* ")" )  (6.6.6)
  table_word : {us vs : List Said} {d : Declared} {t : Table} → IsKeyword w kind.TableWord → IsDeclared us d
      → IsTable vs t → IsField w (us ++ vs) (table_field d t)
  -- "memory" id? export* ( import limits | limits | "(" "data" string* ")" )  (6.6.7)
  memory_word : {us vs : List Said} {d : Declared} {m : Memory} → IsKeyword w kind.MemoryWord → IsDeclared us d
      → IsMemory vs m → IsField w (us ++ vs) (memory_field d m)
  -- "global" id? export* ( import globaltype | globaltype instr* )  (6.6.8)
  global_word : {us vs : List Said} {d : Declared} {g : Global} → IsKeyword w kind.GlobalWord → IsDeclared us d
      → IsGlobal vs g → IsField w (us ++ vs) (global_field d g)
  -- "export" name "(" kind index ")"  (6.6.9)
  export_word : {n k v : KeptToken} {name : List ℕ} {e : ExportKind} {x : Index} → IsKeyword w kind.ExportWord
      → IsName n name → IsKind k e → IsIndex v x
      → IsField w (role.ExportName ⊳ n ∷ role.Description ⊳ k ∷ role.Target ⊳ v ∷ []) (export_field name e x)
  -- "start" index  (6.6.10)
  start_word : {v : KeptToken} {x : Index} → IsKeyword w kind.StartWord → IsIndex v x
      → IsField w (role.Target ⊳ v ∷ []) (start_field w.token x)
  -- "elem" index? offset "func"? index*, where the word `func` is of Core 2.0  (6.6.11)
  elem_word : {us vs ws : List Said} {t : Option Index} {c : Instrs} {xs : List Index} → IsKeyword w kind.ElemWord
      → IsTarget us t → IsOffset vs c → AreElements ws xs → IsField w (us ++ vs ++ ws) (elem_field t c xs)
  -- "data" index? offset string*  (6.6.12)
  data_word : {us vs ws : List Said} {m : Option Index} {c : Instrs} {bytes : List ℕ} → IsKeyword w kind.DataWord
      → IsTarget us m → IsOffset vs c → AreStrings ws bytes → IsField w (us ++ vs ++ ws) (data_field m c bytes)

-- text = "(" "module" id? field* ")" | field*, where field = "(" .. ")": of both the fields alone are kept, each with
-- its word in front and the parenthesis that ends it behind; the module's identifier means nothing  (6.6.13)
pub data AreFields : List Said → List Field → Type 0 where
  none : AreFields [] []
  more : (z : KeptToken) {w : KeptToken} {us vs : List Said} {f : Field} {fs : List Field} → IsField w us f
      → AreFields vs fs → AreFields (role.Field ⊳ w ∷ us ++ role.FieldEnd ⊳ z ∷ vs) (f ∷ fs)
