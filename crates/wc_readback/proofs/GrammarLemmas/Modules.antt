-- Fields and whole modules are derived.
use Rattle.std.proofs.Common.{ℕ, ◌≤◌, Bool, true, false, List, [], ◌∷◌, ◌++◌, refl, Option, Some, None, arith}
use Rattle.std.specs.List.{AllByRecursion}
use Rattle.wc_ops.specs.declared.val_type.ValType.{ValType as ValueType}
use Rattle.wc_ast.specs.declared.func_type.FuncType.{FuncType}
use Rattle.wc_body.specs.declared.instr.BlockType.{BlockType}
use Rattle.wc_body.specs.declared.instr.Instr.{Instr}
use Rattle.wc_body.specs.Standard.Nested.{Code, nesting_limit}
use Rattle.wc_body.specs.Standard.ValueBytes.{Fits32}
use Rattle.wc_body.specs.Standard.InstructionBytes.{FitsExpr}
use Rattle.wc_ast.specs.declared.limits.Limits.{Limits}
use Rattle.wc_ast.specs.declared.import.Desc.{Desc}
use Rattle.wc_ast.specs.declared.import.Desc.TheVariants as descs
use Rattle.wc_ast.specs.declared.import.Import.{Import}
use Rattle.wc_ast.specs.declared.func.Func.{Func}
use Rattle.wc_ast.specs.declared.func.Global.{Global}
use Rattle.wc_ast.specs.declared.export.ExportKind.{ExportKind}
use Rattle.wc_ast.specs.declared.export.ExportKind.TheVariants as export_kinds
use Rattle.wc_ast.specs.declared.export.Export.{Export}
use Rattle.wc_ast.specs.declared.segment.Elem.{Elem}
use Rattle.wc_ast.specs.declared.segment.Data.{Data}
use Rattle.wc_ast.specs.declared.module.Module.{Module}
use Rattle.wc_syntax.specs.declared.kind.Kind.TheVariants as kind
use Rattle.wc_syntax.specs.declared.role.Role.TheVariants as role
use Rattle.wc_syntax.specs.Standard.Phrases.{Keep, Many, The, Maybe, text, modulefield, offset}
use Rattle.wc_syntax.specs.Standard.Types.{functype, limits, tabletype, globaltype}
use Rattle.wc_syntax.specs.Standard.Instructions.{instrs}
use Rattle.wc_syntax.specs.Standard.Fields.{import_names, importdesc, exportkind, function}
use Rattle.wc_readback.specs.Grammar.Signs.{Sign, name}
use Rattle.wc_readback.specs.Grammar.InstructionSigns.{code_signs}
use Rattle.wc_readback.specs.Grammar.FieldSigns.{described, functype_signs, type_signs, max_signs, limits_signs}
use Rattle.wc_readback.specs.Grammar.FieldSigns.{tabletype_signs, globaltype_signs, desc_signs, import_signs}
use Rattle.wc_readback.specs.Grammar.FieldSigns.{function_signs, func_signs, table_signs, memory_signs, global_signs}
use Rattle.wc_readback.specs.Grammar.FieldSigns.{space_word, export_signs, start_signs, place_signs, elem_signs}
use Rattle.wc_readback.specs.Grammar.FieldSigns.{data_signs, field_signs, signs}
use Rattle.wc_readback.specs.Grammar.Fitting.{FitsOptional, FitsLimits, FitsDesc, FitsImport, FitsFunc, FitsGlobal}
use Rattle.wc_readback.specs.Grammar.Fitting.{FitsExport, FitsElem, FitsData, Fits}
use Rattle.wc_readback.proofs.GrammarLemmas.Meaning.{Means, both, first, nothing, in-left, in-right, by-rule, one-more}
use Rattle.wc_readback.proofs.GrammarLemmas.Meaning.{skip, each-then, each}
use Rattle.wc_readback.proofs.GrammarLemmas.Parts.{open-means, close-means, end-means, key-means, kept-means}
use Rattle.wc_readback.proofs.GrammarLemmas.Parts.{type-means, natural-means, index-means, name-means, string-means}
use Rattle.wc_readback.proofs.GrammarLemmas.Parts.{indices-means, params-means, results-means, locals-means}
use Rattle.wc_readback.proofs.GrammarLemmas.Parts.{typeuse-means, exported-means}
use Rattle.wc_readback.proofs.GrammarLemmas.Codes.{code-means}
use Rattle.wc_ast.proofs.Utf8Bytes.{utf8-bytes}

-- any type of a function is printed
abbrev Anything : FuncType → Type 0
Anything t = Unit {0}

all-anything : (ts : List FuncType) → AllByRecursion Anything ts
all-anything [] = tt
all-anything (t ∷ ts) = (tt, all-anything ts)

-- ---- types

functype-means : (t : FuncType) → Means functype (functype_signs t)
functype-means t =
    first open-means (first (key-means kind.FuncWord refl)
    (both (params-means t.params) (both (results-means t.results) close-means)))

max-means : (m : Option ℕ) → FitsOptional m → Means (Maybe (Keep role.LimitsMax kind.Natural32)) (max_signs m)
max-means None h = in-left nothing
max-means (Some n) h = in-right (natural-means role.LimitsMax n h)

limits-means : (l : Limits) → FitsLimits l → Means limits (limits_signs l)
limits-means l h = first (natural-means role.LimitsMin l.min h.0) (max-means l.max h.1)

tabletype-means : (l : Limits) → FitsLimits l → Means tabletype (tabletype_signs l)
tabletype-means l h = both (limits-means l h) (key-means kind.FuncrefWord refl)

globaltype-means : (mutable : Bool) (t : ValueType) → Means globaltype (globaltype_signs mutable t)
globaltype-means false t = in-left (type-means role.GlobalType t)
globaltype-means true t =
    in-right (first open-means (first (kept-means role.Mutable kind.MutWord refl)
    (first (type-means role.GlobalType t) close-means)))

-- ---- imports and exports

names-means : (i : Import) → FitsImport i
    → Means import_names (name role.ModuleName i.«module» ∷ name role.ItemName i.name ∷ [])
names-means i h =
    first (name-means role.ModuleName i.«module» h.0 (utf8-bytes i.«module» h.0))
    (name-means role.ItemName i.name h.1 (utf8-bytes i.name h.1))

desc-means : (t : Desc) → FitsDesc t → Means importdesc (desc_signs t)
desc-means (descs.Func n) h = in-left (first (kept-means role.Description kind.FuncWord refl)
    (skip (typeuse-means n h)))
desc-means (descs.Table l) h =
    in-right (in-left (first (kept-means role.Description kind.TableWord refl) (skip (tabletype-means l h))))
desc-means (descs.Memory l) h =
    in-right (in-right (in-left (first (kept-means role.Description kind.MemoryWord refl) (skip (limits-means l h)))))
desc-means (descs.Global g) h =
    in-right (in-right (in-right
    (first (kept-means role.Description kind.GlobalWord refl) (skip (globaltype-means g.mutable g.ty)))))

space-means : (k : ExportKind) → Means exportkind (described (space_word k) ∷ [])
space-means export_kinds.Func = in-left (kept-means role.Description kind.FuncWord refl)
space-means export_kinds.Table = in-right (in-left (kept-means role.Description kind.TableWord refl))
space-means export_kinds.Memory = in-right (in-right (in-left (kept-means role.Description kind.MemoryWord refl)))
space-means export_kinds.Global = in-right (in-right (in-right (kept-means role.Description kind.GlobalWord refl)))

-- ---- fields, in which instructions may be nested this deep

module _ (d : ℕ) (deep : nesting_limit ≤ d) where
  type-field : (t : FuncType) → Unit {0} → Means (The (modulefield d)) (type_signs t)
  type-field t h =
      by-rule (in-left (first open-means (first (kept-means role.Field kind.TypeWord refl)
      (skip (both (functype-means t) end-means)))))

  import-field : (i : Import) → FitsImport i → Means (The (modulefield d)) (import_signs i)
  import-field i h =
      by-rule (in-right (in-left (first open-means (first (kept-means role.Field kind.ImportWord refl)
      (both (names-means i h) (first open-means
      (both (desc-means i.desc h.2) (first close-means end-means))))))))

  expr-means : (code : Code Instr BlockType) → FitsExpr code → Means (instrs d) (code_signs code)
  expr-means code h = code-means d code h.0 (omega (arith, h.1, deep))

  function-means : (f : Func) → FitsFunc f → Means (function d) (function_signs f)
  function-means f h = in-right (both (typeuse-means f.ty h.0) (both (locals-means f.locals) (expr-means f.body h.1)))

  func-field : (f : Func) → FitsFunc f → Means (The (modulefield d)) (func_signs f)
  func-field f h =
      by-rule (in-right (in-right (in-left (first open-means (first (kept-means role.Field kind.FuncWord refl)
      (both exported-means (both (function-means f h) end-means)))))))

  table-field : (l : Limits) → FitsLimits l → Means (The (modulefield d)) (table_signs l)
  table-field l h =
      by-rule (in-right (in-right (in-right (in-left (first open-means
      (first (kept-means role.Field kind.TableWord refl)
      (both exported-means (both (in-right (in-left (tabletype-means l h))) end-means))))))))

  memory-field : (l : Limits) → FitsLimits l → Means (The (modulefield d)) (memory_signs l)
  memory-field l h =
      by-rule (in-right (in-right (in-right (in-right (in-left
      (first open-means (first (kept-means role.Field kind.MemoryWord refl)
      (both exported-means (both (in-right (in-left (limits-means l h))) end-means)))))))))

  global-field : (g : Global) → FitsGlobal g → Means (The (modulefield d)) (global_signs g)
  global-field g h =
      by-rule (in-right (in-right (in-right (in-right (in-right (in-left
      (first open-means (first (kept-means role.Field kind.GlobalWord refl)
      (both exported-means
      (both (in-right (both (globaltype-means g.ty.mutable g.ty.ty) (expr-means g.init h))) end-means))))))))))

  export-field : (e : Export) → FitsExport e → Means (The (modulefield d)) (export_signs e)
  export-field e h =
      by-rule (in-right (in-right (in-right (in-right (in-right (in-right (in-left
      (first open-means (first (kept-means role.Field kind.ExportWord refl)
      (first (name-means role.ExportName e.name h.0 (utf8-bytes e.name h.0))
      (first open-means (first (space-means e.kind) (first (index-means role.Target e.index h.1)
      (first close-means end-means))))))))))))))

  start-field : (n : ℕ) → Fits32 n → Means (The (modulefield d)) (start_signs (Some n))
  start-field n h =
      by-rule (in-right (in-right (in-right (in-right (in-right (in-right (in-right (in-left
      (first open-means (first (kept-means role.Field kind.StartWord refl)
      (first (index-means role.Target n h) end-means)))))))))))

  place-means : (code : Code Instr BlockType) → FitsExpr code → Means (The (offset d)) (place_signs code)
  place-means code h =
      by-rule (in-left (first open-means (first (key-means kind.OffsetWord refl)
      (both (expr-means code h) close-means))))

  elem-field : (e : Elem) → FitsElem e → Means (The (modulefield d)) (elem_signs e)
  elem-field e h =
      by-rule (in-right (in-right (in-right (in-right (in-right (in-right (in-right (in-right (in-left
      (first open-means (first (kept-means role.Field kind.ElemWord refl)
      (first (in-right (index-means role.Target e.table h.0))
      (both (place-means e.offset h.1) (skip (both (indices-means role.Element e.funcs h.2) end-means)))))))))))))))

  data-field : (t : Data) → FitsData t → Means (The (modulefield d)) (data_signs t)
  data-field t h =
      by-rule (in-right (in-right (in-right (in-right (in-right (in-right (in-right (in-right (in-right
      (first open-means (first (kept-means role.Field kind.DataWord refl)
      (first (in-right (index-means role.Target t.memory h.0))
      (both (place-means t.offset h.1) (first (string-means t.bytes h.2) end-means))))))))))))))

  -- ---- whole modules

  start-then : (n : Option ℕ) → FitsOptional n → (ss : List Sign) → Means (Many (The (modulefield d))) ss
      → Means (Many (The (modulefield d))) (start_signs n ++ ss)
  start-then None h ss k = k
  start-then (Some n) h ss k = one-more (start-field n h) k

  fields-means : (m : Module) → Fits m → Means (Many (The (modulefield d))) (field_signs m)
  fields-means m h =
      each-then Anything type_signs type-field m.types (all-anything m.types) _
      (each-then FitsImport import_signs import-field m.imports h.imports _
      (each-then FitsFunc func_signs func-field m.funcs h.funcs _
      (each-then FitsLimits table_signs table-field m.tables h.tables _
      (each-then FitsLimits memory_signs memory-field m.mems h.mems _
      (each-then FitsGlobal global_signs global-field m.globals h.globals _
      (each-then FitsExport export_signs export-field m.exports h.exports _
      (start-then m.start h.start _
      (each-then FitsElem elem_signs elem-field m.elems h.elems _
      (each FitsData data_signs data-field m.datas h.datas)))))))))

  pub module-means : (m : Module) → Fits m → Means (The (text d)) (signs m)
  module-means m h =
      by-rule (in-left (first open-means (first (key-means kind.ModuleWord refl)
      (skip (both (fields-means m h) close-means)))))
