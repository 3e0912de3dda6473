-- The lists of a module as they grow along the fields, and what is wrong with the names of each.
use Rattle.std.specs.Prelude.{◌≡◌, List, [], ◌++◌, Option, None}
use Rattle.wc_spaces.specs.declared.noted.Fault.{Fault}
use Rattle.wc_spaces.specs.Standard.Least.{least, least_from}
use Rattle.wc_surface.specs.declared.field.Field.{Field}
use Rattle.wc_resolve_code.specs.declared.why.NameWhy.{NameWhy}
use Rattle.wc_resolve.specs.declared.counts.Counts.{Counts}
use Rattle.wc_resolve.specs.declared.lists.Lists.{Lists}
use Rattle.wc_resolve.specs.declared.lists.Notes.{Notes}
use Rattle.wc_resolve.specs.Standard.Imports.{field_imports, imports_of}
use Rattle.wc_resolve.specs.Standard.Ranges.{field_tables, tables_of, field_memories, memories_of}
use Rattle.wc_resolve.specs.Standard.Globals.{field_globals, globals_of, global_faults, all_global_faults}
use Rattle.wc_resolve.specs.Standard.Exports.{field_exports, exports_of, export_faults, all_export_faults}
use Rattle.wc_resolve.specs.Standard.Start.{start_after, start_of, start_faults, all_start_faults}
use Rattle.wc_resolve.specs.Standard.Segments.{field_elems, elems_of, elem_faults, all_elem_faults}
use Rattle.wc_resolve.specs.Standard.Segments.{field_datas, datas_of, data_faults, all_data_faults}

-- no field was gone through
pub record NoLists (lists : Lists) : Type 0 where
  pub imports : lists.imports ≡ []
  pub tables : lists.tables ≡ []
  pub memories : lists.memories ≡ []
  pub globals : lists.globals ≡ []
  pub exports : lists.exports ≡ []
  pub start : lists.start ≡ None
  pub elems : lists.elems ≡ []
  pub datas : lists.datas ≡ []

-- no fault was noted
pub record NoNotes (notes : Notes) : Type 0 where
  pub globals : notes.globals.first ≡ None
  pub exports : notes.exports.first ≡ None
  pub start : notes.start.first ≡ None
  pub elems : notes.elems.first ≡ None
  pub datas : notes.datas.first ≡ None

-- one more field
pub record Grows (all : List Field) (counts : Counts) (f : Field) (old new : Lists) : Type 0 where
  pub imports : new.imports ≡ old.imports ++ field_imports all f
  pub tables : new.tables ≡ old.tables ++ field_tables f
  pub memories : new.memories ≡ old.memories ++ field_memories f
  pub globals : new.globals ≡ old.globals ++ field_globals all f
  pub exports : new.exports ≡ old.exports ++ field_exports all counts f
  pub start : new.start ≡ start_after all old.start f
  pub elems : new.elems ≡ old.elems ++ field_elems all counts f
  pub datas : new.datas ≡ old.datas ++ field_datas all counts f

-- what is wrong with the names of one more field was noted, of each list on its own
pub record Tells (all : List Field) (f : Field) (old new : Notes) : Type 0 where
  pub globals : new.globals.first ≡ least_from old.globals.first (global_faults all f)
  pub exports : new.exports.first ≡ least_from old.exports.first (export_faults all f)
  pub start : new.start.first ≡ least_from old.start.first (start_faults all f)
  pub elems : new.elems.first ≡ least_from old.elems.first (elem_faults all f)
  pub datas : new.datas.first ≡ least_from old.datas.first (data_faults all f)

-- all fields were gone through
pub record AreLists (all : List Field) (lists : Lists) : Type 0 where
  pub imports : lists.imports ≡ imports_of all
  pub tables : lists.tables ≡ tables_of all
  pub memories : lists.memories ≡ memories_of all
  pub globals : lists.globals ≡ globals_of all
  pub exports : lists.exports ≡ exports_of all
  pub start : lists.start ≡ start_of all
  pub elems : lists.elems ≡ elems_of all
  pub datas : lists.datas ≡ datas_of all

-- what is wrong with the names of all fields was noted, of each list on its own
pub record AreTold (all : List Field) (notes : Notes) : Type 0 where
  pub globals : notes.globals.first ≡ least (all_global_faults all)
  pub exports : notes.exports.first ≡ least (all_export_faults all)
  pub start : notes.start.first ≡ least (all_start_faults all)
  pub elems : notes.elems.first ≡ least (all_elem_faults all)
  pub datas : notes.datas.first ≡ least (all_data_faults all)

-- what was noted, and then what is wrong with the names of each list
abbrev pub told_after : List Field → Option (Fault NameWhy) → Option (Fault NameWhy)
told_after all known =
    let globals = least_from known (all_global_faults all) in
    let exports = least_from globals (all_export_faults all) in
    let starts = least_from exports (all_start_faults all) in
    let elems = least_from starts (all_elem_faults all) in
    least_from elems (all_data_faults all)
