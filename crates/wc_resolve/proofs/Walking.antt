-- The lists along the fields.
use Rattle.std.proofs.Common.{◌≡◌, ℕ, ◌+◌, ◌<◌, List, [], ◌++◌, length, drop, get_or, Option, sym, ap, ◌∙◌}
use Rattle.std.specs.List.{flat_map}
use Rattle.wc_spaces.specs.Standard.Least.{least, least_from}
use Rattle.wc_surface.specs.declared.field.Field.{Field}
use Rattle.wc_declare.proofs.Faults.{next, faults-next}
use Rattle.wc_resolve.specs.declared.counts.Counts.{Counts}
use Rattle.wc_resolve.specs.declared.lists.Lists.{Lists}
use Rattle.wc_resolve.specs.declared.lists.Notes.{Notes}
use Rattle.wc_resolve.specs.Standard.Counts.{counts_after, along}
use Rattle.wc_resolve.specs.Standard.Imports.{field_imports, imports_of}
use Rattle.wc_resolve.specs.Standard.Ranges.{field_tables, tables_of, field_memories, memories_of}
use Rattle.wc_resolve.specs.Standard.Globals.{field_globals, globals_of, global_faults, all_global_faults}
use Rattle.wc_resolve.specs.Standard.Exports.{field_exports, exports_of, export_faults, all_export_faults}
use Rattle.wc_resolve.specs.Standard.Start.{start_after, start_from, start_of, start_faults, all_start_faults}
use Rattle.wc_resolve.specs.Standard.Segments.{field_elems, elems_of, elem_faults, all_elem_faults}
use Rattle.wc_resolve.specs.Standard.Segments.{field_datas, datas_of, data_faults, all_data_faults}
use Rattle.wc_resolve.specs.Kept.Listed.{Grows, Tells, AreTold}
use Rattle.wc_resolve.proofs.Counting.{along-more}
use Rattle.wc_resolve.proofs.Rows.{flat-more}

-- with what the rest of the fields gives, these are the lists of all
pub record Listing (all : List Field) (counts : Counts) (rest : List Field) (l : Lists) : Type 0 where
  pub imports : l.imports ++ flat_map (field_imports all) rest ≡ imports_of all
  pub tables : l.tables ++ flat_map field_tables rest ≡ tables_of all
  pub memories : l.memories ++ flat_map field_memories rest ≡ memories_of all
  pub globals : l.globals ++ flat_map (field_globals all) rest ≡ globals_of all
  pub exports : l.exports ++ along (field_exports all) counts rest ≡ exports_of all
  pub start : start_from all l.start rest ≡ start_of all
  pub elems : l.elems ++ along (field_elems all) counts rest ≡ elems_of all
  pub datas : l.datas ++ along (field_datas all) counts rest ≡ datas_of all

-- with what is wrong with the rest of the fields, this is what is wrong with all
pub record Telling (all rest : List Field) (n : Notes) : Type 0 where
  pub globals : least_from n.globals.first (flat_map (global_faults all) rest) ≡ least (all_global_faults all)
  pub exports : least_from n.exports.first (flat_map (export_faults all) rest) ≡ least (all_export_faults all)
  pub start : least_from n.start.first (flat_map (start_faults all) rest) ≡ least (all_start_faults all)
  pub elems : least_from n.elems.first (flat_map (elem_faults all) rest) ≡ least (all_elem_faults all)
  pub datas : least_from n.datas.first (flat_map (data_faults all) rest) ≡ least (all_data_faults all)

start-more : (all fs : List Field) (i : ℕ) (f : Field) (known new whole : Option ℕ) → i < length fs → f ≡ get_or fs i f
    → new ≡ start_after all known f → start_from all known (drop i fs) ≡ whole
    → start_from all new (drop (i + 1) fs) ≡ whole
start-more all fs i f known new whole lt e g h =
    ap (λ (x : Option ℕ). start_from all x (drop (i + 1) fs)) g
    ∙ ap (λ (x : Field). start_from all (start_after all known x) (drop (i + 1) fs)) e
    ∙ ap (λ (x : List Field). start_from all known x) (sym (next fs i f lt)) ∙ h

module _ (fs : List Field) (i : ℕ) (f : Field) (lt : i < length fs) (e : f ≡ get_or fs i f) where
  pub listed-more : (c d : Counts) (old new : Lists) → d ≡ counts_after c f → Grows fs c f old new
      → Listing fs c (drop i fs) old → Listing fs d (drop (i + 1) fs) new
  listed-more c d old new k g w = record {
    imports = flat-more (field_imports fs) fs i f old.imports _ _ lt e g.imports w.imports;
    tables = flat-more field_tables fs i f old.tables _ _ lt e g.tables w.tables;
    memories = flat-more field_memories fs i f old.memories _ _ lt e g.memories w.memories;
    globals = flat-more (field_globals fs) fs i f old.globals _ _ lt e g.globals w.globals;
    exports = along-more (field_exports fs) c d fs i f old.exports _ _ lt e k g.exports w.exports;
    start = start-more fs fs i f old.start _ _ lt e g.start w.start;
    elems = along-more (field_elems fs) c d fs i f old.elems _ _ lt e k g.elems w.elems;
    datas = along-more (field_datas fs) c d fs i f old.datas _ _ lt e k g.datas w.datas;
  }

  pub told-more : (old new : Notes) → Tells fs f old new → Telling fs (drop i fs) old → Telling fs (drop (i + 1) fs) new
  told-more old new g w = record {
    globals = faults-next (global_faults fs) fs i f old.globals.first _ _ lt e g.globals w.globals;
    exports = faults-next (export_faults fs) fs i f old.exports.first _ _ lt e g.exports w.exports;
    start = faults-next (start_faults fs) fs i f old.start.first _ _ lt e g.start w.start;
    elems = faults-next (elem_faults fs) fs i f old.elems.first _ _ lt e g.elems w.elems;
    datas = faults-next (data_faults fs) fs i f old.datas.first _ _ lt e g.datas w.datas;
  }

-- behind the last field
pub telling-ends : (fs : List Field) (t : Notes) → Telling fs [] t → AreTold fs t
telling-ends fs t w = record {
  globals = w.globals;
  exports = w.exports;
  start = w.start;
  elems = w.elems;
  datas = w.datas;
}
