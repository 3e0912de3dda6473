-- The fields of a printed text denote the module, and no name in them has a fault.
use Rattle.std.proofs.Common.{◌≡◌, ℕ, List, [], ◌∷◌, ◌++◌, length, refl, sym, ap, ◌∙◌, Option, Some, None}
use Rattle.std.specs.List.{flat_map}
use Rattle.wc_ast.specs.declared.func_type.FuncType.{FuncType}
use Rattle.wc_ast.specs.declared.limits.Limits.{Limits}
use Rattle.wc_ast.specs.declared.import.Import.{Import}
use Rattle.wc_ast.specs.declared.func.Func.{Func}
use Rattle.wc_ast.specs.declared.func.Global.{Global}
use Rattle.wc_ast.specs.declared.export.Export.{Export}
use Rattle.wc_ast.specs.declared.segment.Elem.{Elem}
use Rattle.wc_ast.specs.declared.segment.Data.{Data}
use Rattle.wc_ast.specs.declared.module.Module.{Module}
use Rattle.wc_surface.specs.declared.field.Field.{Field}
use Rattle.wc_spaces.specs.declared.noted.Fault.{Fault}
use Rattle.wc_spaces.specs.Standard.Least.{least}
use Rattle.wc_resolve_code.specs.declared.why.NameWhy.{NameWhy}
use Rattle.wc_declare.specs.Standard.Stages.{declaration_faults, all_use_faults, or_else}
use Rattle.wc_resolve.specs.declared.counts.Counts.{Counts}
use Rattle.wc_resolve.specs.Standard.Counts.{no_counts, counts_after}
use Rattle.wc_resolve.specs.Standard.Counts.{along as counted}
use Rattle.wc_resolve.specs.Standard.Imports.{field_imports}
use Rattle.wc_resolve.specs.Standard.Funcs.{field_funcs, field_func_faults}
use Rattle.wc_resolve.specs.Standard.Ranges.{field_tables, field_memories}
use Rattle.wc_resolve.specs.Standard.Globals.{field_globals, global_faults}
use Rattle.wc_resolve.specs.Standard.Exports.{field_exports, export_faults}
use Rattle.wc_resolve.specs.Standard.Start.{start_from, start_faults}
use Rattle.wc_resolve.specs.Standard.Segments.{field_elems, elem_faults}
use Rattle.wc_resolve.specs.Standard.Segments.{field_datas, data_faults}
use Rattle.wc_resolve.specs.Standard.Denoted.{denoted, reference_faults, Names}
use Rattle.wc_readback.specs.Grammar.FieldSigns.{type_signs, import_signs, func_signs, table_signs, memory_signs}
use Rattle.wc_readback.specs.Grammar.FieldSigns.{global_signs, export_signs, start_signs, elem_signs, data_signs}
use Rattle.wc_readback.specs.Fields.Surface.{along, behind, start_along, type_field, import_field, func_field}
use Rattle.wc_readback.specs.Fields.Surface.{table_field, memory_field, global_field, export_field, start_field}
use Rattle.wc_readback.specs.Fields.Surface.{elem_field, data_field, text_fields}
use Rattle.wc_readback.specs.Names.Known.{Known, KnownFunc, KnownGlobal, KnownElem, KnownData}
use Rattle.wc_readback.proofs.NameLemmas.Along.{over, onward, onward-start}
use Rattle.wc_readback.proofs.NameLemmas.Declaring.{no-declaration-faults}
use Rattle.wc_readback.proofs.NameLemmas.Typing.{same-types, no-use-faults}
use Rattle.wc_readback.proofs.NameLemmas.Gathering.{gathered, counted-up, Any, all-any, import-one, func-one}
use Rattle.wc_readback.proofs.NameLemmas.Gathering.{func-clean, global-one, global-clean, elem-one, elem-clean}
use Rattle.wc_readback.proofs.NameLemmas.Gathering.{data-one, data-clean}

-- ---- all fields

first-clean : (g : Field → List (Fault NameWhy)) (f : Field) (fs : List Field) → g f ≡ [] → flat_map g fs ≡ []
    → flat_map g (f ∷ fs) ≡ []
first-clean g f fs e r = ap (λ (x : List (Fault NameWhy)). x ++ flat_map g fs) e ∙ r

module _ (m : Module) (h : Known m) (all : List Field) where
  abbrev count : ℕ
  count = length m.types

  abbrev NoImports : List Field → Type 0
  NoImports fs = flat_map (field_imports all) fs ≡ []

  abbrev AllImports : List Field → Type 0
  AllImports fs = flat_map (field_imports all) fs ≡ m.imports

  same-imports : flat_map (field_imports all) (text_fields m) ≡ m.imports
  same-imports =
      over type_field type_signs AllImports (λ n x fs r. r) m.types _ (
      gathered import_field import_signs Any (field_imports all) (import-one all count) m.imports (all-any m.imports) _
      (
      over func_field func_signs NoImports (λ n x fs r. r) m.funcs _ (
      over table_field table_signs NoImports (λ n x fs r. r) m.tables _ (
      over memory_field memory_signs NoImports (λ n x fs r. r) m.mems _ (
      over global_field global_signs NoImports (λ n x fs r. r) m.globals _ (
      over export_field export_signs NoImports (λ n x fs r. r) m.exports _ (
      onward-start NoImports (λ n i fs r. r) m.start _ (
      over elem_field elem_signs NoImports (λ n x fs r. r) m.elems _ (
      over data_field data_signs NoImports (λ n x fs r. r) m.datas _ (λ n. refl)))))))))) 2

  abbrev NoFuncs : List Field → Type 0
  NoFuncs fs = flat_map (field_funcs all) fs ≡ []

  abbrev AllFuncs : List Field → Type 0
  AllFuncs fs = flat_map (field_funcs all) fs ≡ m.funcs

  same-funcs : flat_map (field_funcs all) (text_fields m) ≡ m.funcs
  same-funcs =
      over type_field type_signs AllFuncs (λ n x fs r. r) m.types _ (
      over import_field import_signs AllFuncs (λ n x fs r. r) m.imports _ (
      gathered func_field func_signs (KnownFunc count) (field_funcs all) (func-one all count) m.funcs h.funcs _ (
      over table_field table_signs NoFuncs (λ n x fs r. r) m.tables _ (
      over memory_field memory_signs NoFuncs (λ n x fs r. r) m.mems _ (
      over global_field global_signs NoFuncs (λ n x fs r. r) m.globals _ (
      over export_field export_signs NoFuncs (λ n x fs r. r) m.exports _ (
      onward-start NoFuncs (λ n i fs r. r) m.start _ (
      over elem_field elem_signs NoFuncs (λ n x fs r. r) m.elems _ (
      over data_field data_signs NoFuncs (λ n x fs r. r) m.datas _ (λ n. refl)))))))))) 2

  abbrev NoTables : List Field → Type 0
  NoTables fs = flat_map field_tables fs ≡ []

  abbrev AllTables : List Field → Type 0
  AllTables fs = flat_map field_tables fs ≡ m.tables

  same-tables : flat_map field_tables (text_fields m) ≡ m.tables
  same-tables =
      over type_field type_signs AllTables (λ n x fs r. r) m.types _ (
      over import_field import_signs AllTables (λ n x fs r. r) m.imports _ (
      over func_field func_signs AllTables (λ n x fs r. r) m.funcs _ (
      gathered table_field table_signs Any field_tables (λ n x q. refl) m.tables (all-any m.tables) _ (
      over memory_field memory_signs NoTables (λ n x fs r. r) m.mems _ (
      over global_field global_signs NoTables (λ n x fs r. r) m.globals _ (
      over export_field export_signs NoTables (λ n x fs r. r) m.exports _ (
      onward-start NoTables (λ n i fs r. r) m.start _ (
      over elem_field elem_signs NoTables (λ n x fs r. r) m.elems _ (
      over data_field data_signs NoTables (λ n x fs r. r) m.datas _ (λ n. refl)))))))))) 2

  abbrev NoMemories : List Field → Type 0
  NoMemories fs = flat_map field_memories fs ≡ []

  abbrev AllMemories : List Field → Type 0
  AllMemories fs = flat_map field_memories fs ≡ m.mems

  same-memories : flat_map field_memories (text_fields m) ≡ m.mems
  same-memories =
      over type_field type_signs AllMemories (λ n x fs r. r) m.types _ (
      over import_field import_signs AllMemories (λ n x fs r. r) m.imports _ (
      over func_field func_signs AllMemories (λ n x fs r. r) m.funcs _ (
      over table_field table_signs AllMemories (λ n x fs r. r) m.tables _ (
      gathered memory_field memory_signs Any field_memories (λ n x q. refl) m.mems (all-any m.mems) _ (
      over global_field global_signs NoMemories (λ n x fs r. r) m.globals _ (
      over export_field export_signs NoMemories (λ n x fs r. r) m.exports _ (
      onward-start NoMemories (λ n i fs r. r) m.start _ (
      over elem_field elem_signs NoMemories (λ n x fs r. r) m.elems _ (
      over data_field data_signs NoMemories (λ n x fs r. r) m.datas _ (λ n. refl)))))))))) 2

  abbrev NoGlobals : List Field → Type 0
  NoGlobals fs = flat_map (field_globals all) fs ≡ []

  abbrev AllGlobals : List Field → Type 0
  AllGlobals fs = flat_map (field_globals all) fs ≡ m.globals

  same-globals : flat_map (field_globals all) (text_fields m) ≡ m.globals
  same-globals =
      over type_field type_signs AllGlobals (λ n x fs r. r) m.types _ (
      over import_field import_signs AllGlobals (λ n x fs r. r) m.imports _ (
      over func_field func_signs AllGlobals (λ n x fs r. r) m.funcs _ (
      over table_field table_signs AllGlobals (λ n x fs r. r) m.tables _ (
      over memory_field memory_signs AllGlobals (λ n x fs r. r) m.mems _ (
      gathered global_field global_signs (KnownGlobal count) (field_globals all) (global-one all count) m.globals
      h.globals _ (
      over export_field export_signs NoGlobals (λ n x fs r. r) m.exports _ (
      onward-start NoGlobals (λ n i fs r. r) m.start _ (
      over elem_field elem_signs NoGlobals (λ n x fs r. r) m.elems _ (
      over data_field data_signs NoGlobals (λ n x fs r. r) m.datas _ (λ n. refl)))))))))) 2

  abbrev NoExports : List Field → Type 0
  NoExports fs = (c : Counts) → counted (field_exports all) c fs ≡ []

  abbrev AllExports : List Field → Type 0
  AllExports fs = (c : Counts) → counted (field_exports all) c fs ≡ m.exports

  same-exports : counted (field_exports all) no_counts (text_fields m) ≡ m.exports
  same-exports =
      over type_field type_signs AllExports (λ n x fs r c. r (counts_after c (type_field n x))) m.types _ (
      over import_field import_signs AllExports (λ n x fs r c. r (counts_after c (import_field n x))) m.imports _ (
      over func_field func_signs AllExports (λ n x fs r c. r (counts_after c (func_field n x))) m.funcs _ (
      over table_field table_signs AllExports (λ n x fs r c. r (counts_after c (table_field n x))) m.tables _ (
      over memory_field memory_signs AllExports (λ n x fs r c. r (counts_after c (memory_field n x))) m.mems _ (
      over global_field global_signs AllExports (λ n x fs r c. r (counts_after c (global_field n x))) m.globals _ (
      counted-up export_field export_signs Any (field_exports all) (λ c n x q. refl) m.exports (all-any m.exports) _ (
      onward-start NoExports (λ n i fs r c. r (counts_after c (start_field n i))) m.start _ (
      over elem_field elem_signs NoExports (λ n x fs r c. r (counts_after c (elem_field n x))) m.elems _ (
      over data_field data_signs NoExports (λ n x fs r c. r (counts_after c (data_field n x))) m.datas _ (λ n c.
      refl)))))))))) 2 no_counts

  abbrev NoElems : List Field → Type 0
  NoElems fs = (c : Counts) → counted (field_elems all) c fs ≡ []

  abbrev AllElems : List Field → Type 0
  AllElems fs = (c : Counts) → counted (field_elems all) c fs ≡ m.elems

  same-elems : counted (field_elems all) no_counts (text_fields m) ≡ m.elems
  same-elems =
      over type_field type_signs AllElems (λ n x fs r c. r (counts_after c (type_field n x))) m.types _ (
      over import_field import_signs AllElems (λ n x fs r c. r (counts_after c (import_field n x))) m.imports _ (
      over func_field func_signs AllElems (λ n x fs r c. r (counts_after c (func_field n x))) m.funcs _ (
      over table_field table_signs AllElems (λ n x fs r c. r (counts_after c (table_field n x))) m.tables _ (
      over memory_field memory_signs AllElems (λ n x fs r c. r (counts_after c (memory_field n x))) m.mems _ (
      over global_field global_signs AllElems (λ n x fs r c. r (counts_after c (global_field n x))) m.globals _ (
      over export_field export_signs AllElems (λ n x fs r c. r (counts_after c (export_field n x))) m.exports _ (
      onward-start AllElems (λ n i fs r c. r (counts_after c (start_field n i))) m.start _ (
      counted-up elem_field elem_signs (KnownElem count) (field_elems all) (elem-one all count) m.elems h.elems _ (
      over data_field data_signs NoElems (λ n x fs r c. r (counts_after c (data_field n x))) m.datas _ (λ n c.
      refl)))))))))) 2 no_counts

  abbrev AllDatas : List Field → Type 0
  AllDatas fs = (c : Counts) → counted (field_datas all) c fs ≡ m.datas

  same-datas : counted (field_datas all) no_counts (text_fields m) ≡ m.datas
  same-datas =
      over type_field type_signs AllDatas (λ n x fs r c. r (counts_after c (type_field n x))) m.types _ (
      over import_field import_signs AllDatas (λ n x fs r c. r (counts_after c (import_field n x))) m.imports _ (
      over func_field func_signs AllDatas (λ n x fs r c. r (counts_after c (func_field n x))) m.funcs _ (
      over table_field table_signs AllDatas (λ n x fs r c. r (counts_after c (table_field n x))) m.tables _ (
      over memory_field memory_signs AllDatas (λ n x fs r c. r (counts_after c (memory_field n x))) m.mems _ (
      over global_field global_signs AllDatas (λ n x fs r c. r (counts_after c (global_field n x))) m.globals _ (
      over export_field export_signs AllDatas (λ n x fs r c. r (counts_after c (export_field n x))) m.exports _ (
      onward-start AllDatas (λ n i fs r c. r (counts_after c (start_field n i))) m.start _ (
      over elem_field elem_signs AllDatas (λ n x fs r c. r (counts_after c (elem_field n x))) m.elems _ (
      counted-up data_field data_signs (KnownData count) (field_datas all) (data-one all count) m.datas h.datas _
      (λ n c. refl)))))))))) 2 no_counts

  -- ---- the start function

  abbrev Starts : List Field → Type 0
  Starts fs = start_from all None fs ≡ m.start

  segments-start : (known : Option ℕ) (n : ℕ) → start_from all known (along elem_field elem_signs n m.elems (λ n.
      along data_field data_signs n m.datas (λ n. []))) ≡ known
  segments-start known =
      over elem_field elem_signs (λ fs. start_from all known fs ≡ known) (λ n x fs r. r) m.elems _ (
      over data_field data_signs (λ fs. start_from all known fs ≡ known) (λ n x fs r. r) m.datas _ (λ n. refl))

  start-at : (s : Option ℕ) (n : ℕ) → start_from all None (start_along n s (λ n.
      along elem_field elem_signs n m.elems (λ n.
      along data_field data_signs n m.datas (λ n. [])))) ≡ s
  start-at None n = segments-start None n
  start-at (Some i) n = segments-start (Some i) (behind (start_signs (Some i)) n)

  same-start : start_from all None (text_fields m) ≡ m.start
  same-start =
      over type_field type_signs Starts (λ n x fs r. r) m.types _ (
      over import_field import_signs Starts (λ n x fs r. r) m.imports _ (
      over func_field func_signs Starts (λ n x fs r. r) m.funcs _ (
      over table_field table_signs Starts (λ n x fs r. r) m.tables _ (
      over memory_field memory_signs Starts (λ n x fs r. r) m.mems _ (
      over global_field global_signs Starts (λ n x fs r. r) m.globals _ (
      over export_field export_signs Starts (λ n x fs r. r) m.exports _ (start-at m.start))))))) 2

  -- ---- no faults

  abbrev CleanGlobals : List Field → Type 0
  CleanGlobals fs = flat_map (global_faults all) fs ≡ []

  clean-globals : flat_map (global_faults all) (text_fields m) ≡ []
  clean-globals =
      over type_field type_signs CleanGlobals (λ n x fs r. r) m.types _ (
      over import_field import_signs CleanGlobals (λ n x fs r. r) m.imports _ (
      over func_field func_signs CleanGlobals (λ n x fs r. r) m.funcs _ (
      over table_field table_signs CleanGlobals (λ n x fs r. r) m.tables _ (
      over memory_field memory_signs CleanGlobals (λ n x fs r. r) m.mems _ (
      onward global_field global_signs (KnownGlobal count) CleanGlobals (λ n x fs q r.
      first-clean (global_faults all) (global_field n x) fs (global-clean all count n x q) r) m.globals h.globals _
      (
      over export_field export_signs CleanGlobals (λ n x fs r. r) m.exports _ (
      onward-start CleanGlobals (λ n i fs r. r) m.start _ (
      over elem_field elem_signs CleanGlobals (λ n x fs r. r) m.elems _ (
      over data_field data_signs CleanGlobals (λ n x fs r. r) m.datas _ (λ n. refl)))))))))) 2

  abbrev CleanExports : List Field → Type 0
  CleanExports fs = flat_map (export_faults all) fs ≡ []

  clean-exports : flat_map (export_faults all) (text_fields m) ≡ []
  clean-exports =
      over type_field type_signs CleanExports (λ n x fs r. r) m.types _ (
      over import_field import_signs CleanExports (λ n x fs r. r) m.imports _ (
      over func_field func_signs CleanExports (λ n x fs r. r) m.funcs _ (
      over table_field table_signs CleanExports (λ n x fs r. r) m.tables _ (
      over memory_field memory_signs CleanExports (λ n x fs r. r) m.mems _ (
      over global_field global_signs CleanExports (λ n x fs r. r) m.globals _ (
      over export_field export_signs CleanExports (λ n x fs r. r) m.exports _ (
      onward-start CleanExports (λ n i fs r. r) m.start _ (
      over elem_field elem_signs CleanExports (λ n x fs r. r) m.elems _ (
      over data_field data_signs CleanExports (λ n x fs r. r) m.datas _ (λ n. refl)))))))))) 2

  abbrev CleanStarts : List Field → Type 0
  CleanStarts fs = flat_map (start_faults all) fs ≡ []

  clean-starts : flat_map (start_faults all) (text_fields m) ≡ []
  clean-starts =
      over type_field type_signs CleanStarts (λ n x fs r. r) m.types _ (
      over import_field import_signs CleanStarts (λ n x fs r. r) m.imports _ (
      over func_field func_signs CleanStarts (λ n x fs r. r) m.funcs _ (
      over table_field table_signs CleanStarts (λ n x fs r. r) m.tables _ (
      over memory_field memory_signs CleanStarts (λ n x fs r. r) m.mems _ (
      over global_field global_signs CleanStarts (λ n x fs r. r) m.globals _ (
      over export_field export_signs CleanStarts (λ n x fs r. r) m.exports _ (
      onward-start CleanStarts (λ n i fs r. r) m.start _ (
      over elem_field elem_signs CleanStarts (λ n x fs r. r) m.elems _ (
      over data_field data_signs CleanStarts (λ n x fs r. r) m.datas _ (λ n. refl)))))))))) 2

  abbrev CleanElems : List Field → Type 0
  CleanElems fs = flat_map (elem_faults all) fs ≡ []

  clean-elems : flat_map (elem_faults all) (text_fields m) ≡ []
  clean-elems =
      over type_field type_signs CleanElems (λ n x fs r. r) m.types _ (
      over import_field import_signs CleanElems (λ n x fs r. r) m.imports _ (
      over func_field func_signs CleanElems (λ n x fs r. r) m.funcs _ (
      over table_field table_signs CleanElems (λ n x fs r. r) m.tables _ (
      over memory_field memory_signs CleanElems (λ n x fs r. r) m.mems _ (
      over global_field global_signs CleanElems (λ n x fs r. r) m.globals _ (
      over export_field export_signs CleanElems (λ n x fs r. r) m.exports _ (
      onward-start CleanElems (λ n i fs r. r) m.start _ (
      onward elem_field elem_signs (KnownElem count) CleanElems (λ n x fs q r.
      first-clean (elem_faults all) (elem_field n x) fs (elem-clean all count n x q) r) m.elems h.elems _ (
      over data_field data_signs CleanElems (λ n x fs r. r) m.datas _ (λ n. refl)))))))))) 2

  abbrev CleanDatas : List Field → Type 0
  CleanDatas fs = flat_map (data_faults all) fs ≡ []

  clean-datas : flat_map (data_faults all) (text_fields m) ≡ []
  clean-datas =
      over type_field type_signs CleanDatas (λ n x fs r. r) m.types _ (
      over import_field import_signs CleanDatas (λ n x fs r. r) m.imports _ (
      over func_field func_signs CleanDatas (λ n x fs r. r) m.funcs _ (
      over table_field table_signs CleanDatas (λ n x fs r. r) m.tables _ (
      over memory_field memory_signs CleanDatas (λ n x fs r. r) m.mems _ (
      over global_field global_signs CleanDatas (λ n x fs r. r) m.globals _ (
      over export_field export_signs CleanDatas (λ n x fs r. r) m.exports _ (
      onward-start CleanDatas (λ n i fs r. r) m.start _ (
      over elem_field elem_signs CleanDatas (λ n x fs r. r) m.elems _ (
      onward data_field data_signs (KnownData count) CleanDatas (λ n x fs q r.
      first-clean (data_faults all) (data_field n x) fs (data-clean all count n x q) r) m.datas h.datas _ (λ n.
      refl)))))))))) 2

  abbrev CleanFuncs : List Field → Type 0
  CleanFuncs fs = flat_map (field_func_faults all) fs ≡ []

  clean-funcs : flat_map (field_func_faults all) (text_fields m) ≡ []
  clean-funcs =
      over type_field type_signs CleanFuncs (λ n x fs r. r) m.types _ (
      over import_field import_signs CleanFuncs (λ n x fs r. r) m.imports _ (
      onward func_field func_signs (KnownFunc count) CleanFuncs (λ n x fs q r.
      first-clean (field_func_faults all) (func_field n x) fs (func-clean all count n x q) r) m.funcs h.funcs _ (
      over table_field table_signs CleanFuncs (λ n x fs r. r) m.tables _ (
      over memory_field memory_signs CleanFuncs (λ n x fs r. r) m.mems _ (
      over global_field global_signs CleanFuncs (λ n x fs r. r) m.globals _ (
      over export_field export_signs CleanFuncs (λ n x fs r. r) m.exports _ (
      onward-start CleanFuncs (λ n i fs r. r) m.start _ (
      over elem_field elem_signs CleanFuncs (λ n x fs r. r) m.elems _ (
      over data_field data_signs CleanFuncs (λ n x fs r. r) m.datas _ (λ n. refl)))))))))) 2

-- ---- the module

same-module : (m : Module) (ts : List FuncType) (is : List Import) (fs : List Func) (tables mems : List Limits)
    (gs : List Global) (es : List Export) (s : Option ℕ) (elems : List Elem) (datas : List Data) → ts ≡ m.types
    → is ≡ m.imports → fs ≡ m.funcs → tables ≡ m.tables → mems ≡ m.mems → gs ≡ m.globals → es ≡ m.exports → s ≡ m.start
    → elems ≡ m.elems → datas ≡ m.datas
    → record {
      types = ts;
      imports = is;
      funcs = fs;
      tables = tables;
      mems = mems;
      globals = gs;
      exports = es;
      start = s;
      elems = elems;
      datas = datas;
    } ≡ m
same-module m ts is fs tables mems gs es s elems datas e1 e2 e3 e4 e5 e6 e7 e8 e9 e10 =
    rw (e1, e2, e3, e4, e5, e6, e7, e8, e9, e10) refl

denoted-back : (m : Module) → Known m → denoted (text_fields m) ≡ m
denoted-back m h =
    let all = text_fields m in
    same-module m _ _ _ _ _ _ _ _ _ _ (same-types m h) (same-imports m h all) (same-funcs m h all) (same-tables m h all)
    (same-memories m h all) (same-globals m h all) (same-exports m h all) (same-start m h all) (same-elems m h all)
    (same-datas m h all)

six : (a b c d e f : List (Fault NameWhy)) → a ≡ [] → b ≡ [] → c ≡ [] → d ≡ [] → e ≡ [] → f ≡ []
    → a ++ (b ++ (c ++ (d ++ (e ++ f)))) ≡ []
six a b c d e f e1 e2 e3 e4 e5 e6 = rw (e1, e2, e3, e4, e5, e6) refl

clean-references : (m : Module) → Known m → reference_faults (text_fields m) ≡ []
clean-references m h =
    let all = text_fields m in
    six _ _ _ _ _ _ (clean-globals m h all) (clean-exports m h all) (clean-starts m h all) (clean-elems m h all)
    (clean-datas m h all) (clean-funcs m h all)

none-least : (a b c : List (Fault NameWhy)) → a ≡ [] → b ≡ [] → c ≡ []
    → or_else (or_else (least a) (least b)) (least c) ≡ None
none-least a b c e1 e2 e3 = rw (e1, e2, e3) refl

pub named : (m : Module) → Known m → Names (text_fields m) m
named m h = record {
  right = none-least (declaration_faults (text_fields m)) (all_use_faults (text_fields m))
      (reference_faults (text_fields m))
      (no-declaration-faults m h) (no-use-faults m h) (clean-references m h);
  same = sym (denoted-back m h);
}
