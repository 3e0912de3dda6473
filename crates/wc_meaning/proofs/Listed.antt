-- The lists of a module, and what is wrong with what they name.
use Rattle.std.proofs.Common.{◌≡◌, ℕ, ◌+◌, List, [], ◌∷◌, ◌++◌, map, length, drop, Option, Some, None}
use Rattle.std.proofs.Common.{refl, sym, ap, ◌∙◌, append-nil}
use Rattle.std.proofs.lemmas.List.{length-append, length-map}
use Rattle.std.proofs.lemmas.Grind.{flat_map-append}
use Rattle.std.specs.Prelude.{option_map, option_to_list, is_some, if◌then◌else◌}
use Rattle.std.specs.List.{flat_map}
use Rattle.std.specs.Option.{unwrap_or}
use Rattle.wc_ast.specs.declared.export.ExportKind.{ExportKind}
use Rattle.wc_ast.specs.declared.export.ExportKind.TheVariants as kind
use Rattle.wc_ast.specs.declared.import.Desc.{Desc as DescOf}
use Rattle.wc_ast.specs.declared.import.Desc.TheVariants as binary
use Rattle.wc_ast.specs.declared.import.Import.{Import as ImportOf}
use Rattle.wc_ast.specs.declared.func.Func.{Func}
use Rattle.wc_ast.specs.declared.func.Global.{Global as GlobalOf}
use Rattle.wc_ast.specs.declared.limits.GlobalType.{GlobalType}
use Rattle.wc_body.specs.declared.instr.Instr.{Instr}
use Rattle.wc_body.specs.declared.instr.BlockType.{BlockType}
use Rattle.wc_body.specs.Standard.Nested.{Code}
use Rattle.wc_spaces.specs.Standard.Spaces.{place_of}
use Rattle.wc_resolve_code.specs.declared.why.NameWhy.TheVariants.{SecondStart, UnknownId}
use Rattle.wc_resolve_code.specs.Standard.Contexts.{Declared}
use Rattle.wc_surface.specs.declared.type_use.User.TheVariants as user
use Rattle.wc_surface.specs.declared.field.Field.{Field as StoredField}
use Rattle.wc_surface.specs.Standard.Written.Indices.{Index, number, named}
use Rattle.wc_surface.specs.Standard.Written.Fields.{Import, Desc, Function, Table, Memory, Global, Field}
use Rattle.wc_surface.specs.Standard.Written.Fields.{import_field, func_field, table_field, memory_field, global_field}
use Rattle.wc_surface.specs.Standard.Written.Fields.{export_field, start_field, elem_field, data_field}
use Rattle.wc_parse_code.specs.Stored.TypeUses.{index_as}
use Rattle.wc_parse_field.specs.Stored.Fields.{field_as, import_as}
use Rattle.wc_declare.specs.declared.kind.SpaceKind.TheVariants as old_kind
use Rattle.wc_declare.specs.Standard.Spaces as old_spaces
use Rattle.wc_declare.specs.Standard.Uses.{named_index}
use Rattle.wc_resolve.specs.declared.counts.Counts.{Counts}
use Rattle.wc_resolve.specs.Standard.Counts as old_counts
use Rattle.wc_resolve.specs.Standard.Indices as old_indices
use Rattle.wc_resolve.specs.Standard.Exports as old_exports
use Rattle.wc_resolve.specs.Standard.Start as old_start
use Rattle.wc_resolve.specs.Standard.Imports as old_imports
use Rattle.wc_resolve.specs.Standard.Ranges as old_ranges
use Rattle.wc_resolve.specs.Standard.Globals as old_globals
use Rattle.wc_resolve.specs.Standard.Segments as old_segments
use Rattle.wc_resolve.specs.Standard.Funcs as old_funcs
use Rattle.wc_meaning.specs.Standard.Contexts.{Space, Faults, bytes_in, fault, index_in, index_faults, indices_faults}
use Rattle.wc_meaning.specs.Standard.Spaces.{declares, space}
use Rattle.wc_meaning.specs.Standard.Order.{starts}
use Rattle.wc_meaning.specs.Standard.Functions.{field_funcs, func_faults, field_globals, global_faults}
use Rattle.wc_meaning.specs.Standard.Imports.{field_imports}
use Rattle.wc_meaning.specs.Standard.Exports.{exported, along, field_exports, export_faults, start_of, start_faults}
use Rattle.wc_meaning.specs.Standard.Ranges.{exactly, field_tables, field_memories}
use Rattle.wc_meaning.specs.Standard.Segments.{elem, segment, target, field_elems, elem_faults, field_datas}
use Rattle.wc_meaning.specs.Standard.Segments.{data_faults}
use Rattle.wc_meaning.specs.Standard.Denoted.{context_of}
use Rattle.wc_meaning.specs.Stored.Placed.{FieldPlaced, ArePlaced}
use Rattle.wc_meaning.proofs.Lists.{both, mapped-same, flat-mapped}
use Rattle.wc_meaning.proofs.Spaced.{declares-stored, space-texts}
use Rattle.wc_meaning.proofs.Types.Judged.{use-indexed}
use Rattle.wc_meaning.proofs.Codes.Functions.{func-same, func-judged, constant-same, constant-judged}

-- ---- what is declared before a field

-- how many these fields declare
abbrev pub counts_of : List Field → Counts
counts_of fs = record {
  funcs = length (space kind.Func fs);
  tables = length (space kind.Table fs);
  memories = length (space kind.Memory fs);
  globals = length (space kind.Global fs);
}

count-more : (k : ExportKind) (fs : List Field) (f : Field)
    → length (space k fs) + length (declares k f) ≡ length (space k (fs ++ f ∷ []))
count-more k fs f =
    sym (ap length (flat_map-append (declares k) fs (f ∷ [])
    ∙ ap (λ (ds : Space). space k fs ++ ds) (append-nil (declares k f)))
    ∙ length-append (space k fs) (declares k f))

one-more : (k : ExportKind) (fs : List Field) (f : Field)
    → length (space k fs) + length (old_spaces.declares (old_indices.space_kind k) (field_as f))
    ≡ length (space k (fs ++ f ∷ []))
one-more k fs f =
    ap (λ (ds : Space). length (space k fs) + length ds) (declares-stored k f) ∙ count-more k fs f

counts-more : (fs : List Field) (f : Field)
    → old_counts.counts_after (counts_of fs) (field_as f) ≡ counts_of (fs ++ f ∷ [])
counts-more fs f =
    let a = one-more kind.Func fs f in
    let b = one-more kind.Table fs f in
    let c = one-more kind.Memory fs f in
    let d = one-more kind.Global fs f in
    λ i. record { funcs = a i; tables = b i; memories = c i; globals = d i }

module _ {X : Type 0} (stored_gives : Counts → StoredField → List X) (gives : List Field → Field → List X) where
  -- what fields give, along them, where each gives the same
  pub along-same : ((before : List Field) (f : Field) → FieldPlaced f
      → stored_gives (counts_of before) (field_as f) ≡ gives before f) → (before fs : List Field) → ArePlaced fs
      → old_counts.along stored_gives (counts_of before) (map field_as fs) ≡ along gives before fs
  along-same same before [] p = refl
  along-same same before (f ∷ fs) p =
      both (same before f p.0)
      (ap (λ (c : Counts). old_counts.along stored_gives c (map field_as fs)) (counts-more before f)
      ∙ along-same same (before ++ f ∷ []) fs p.1)

-- ---- indices

index-written : (ds : Declared) (s : Space) → ds ≡ map bytes_in s → (x : Index)
    → named_index ds (index_as x) ≡ index_in s x
index-written ds s e (number token n) = refl
index-written ds s e (named i) = ap (λ (xs : Declared). unwrap_or (place_of i.text xs) 0) e

index-judged : (ds : Declared) (s : Space) → ds ≡ map bytes_in s → (x : Index)
    → old_indices.unknown_index ds (index_as x) ≡ index_faults s x
index-judged ds s e (number token n) = refl
index-judged ds s e (named i) =
    ap (λ (xs : Declared). if is_some (place_of i.text xs) then [] else fault i.token UnknownId) e

target-written : (ds : Declared) (s : Space) → ds ≡ map bytes_in s → (o : Option Index)
    → old_indices.index_or_zero ds (option_map index_as o) ≡ target s o
target-written ds s e None = refl
target-written ds s e (Some x) = index-written ds s e x

target-judged : (ds : Declared) (s : Space) → ds ≡ map bytes_in s → (o : Option Index)
    → old_indices.unknown_in ds (option_map index_as o) ≡ indices_faults s (option_to_list o)
target-judged ds s e None = refl
target-judged ds s e (Some x) = index-judged ds s e x ∙ sym (append-nil (index_faults s x))

indices-judged : (ds : Declared) (s : Space) → ds ≡ map bytes_in s → (xs : List Index)
    → old_indices.unknown_of ds (map index_as xs) ≡ indices_faults s xs
indices-judged ds s e xs =
    flat-mapped index_as (old_indices.unknown_index ds) (index_faults s) (index-judged ds s e) xs

indices-written : (ds : Declared) (s : Space) → ds ≡ map bytes_in s → (xs : List Index)
    → old_indices.indices_of ds (map index_as xs) ≡ map (index_in s) xs
indices-written ds s e xs = mapped-same index_as (named_index ds) (index_in s) (index-written ds s e) xs

module _ (ws : List Field) where
  abbrev all : List StoredField
  all = map field_as ws

  -- ---- imports, functions, tables, memories and globals

  import-same : (m : Import) {d e : DescOf} → d ≡ e
      → ◌≡◌ {A = List ImportOf} (old_imports.import (import_as m) d ∷ [])
      (record { «module» = m.«module»; name = m.item; desc = e } ∷ [])
  import-same m h = ap (λ x. record { «module» = m.«module»; name = m.item; desc = x } ∷ []) h

  pub imports-stored : (f : Field) → old_imports.field_imports all (field_as f) ≡ field_imports (context_of ws) f
  imports-stored (import_field m i (Desc.func u)) =
      import-same m (ap binary.Func (use-indexed ws user.Func m.token u))
  imports-stored (import_field m i (Desc.table l)) = refl
  imports-stored (import_field m i (Desc.memory l)) = refl
  imports-stored (import_field m i (Desc.global g)) = refl
  imports-stored (func_field token d (Function.imported m u)) =
      import-same m (ap binary.Func (use-indexed ws user.Func token u))
  imports-stored (table_field d (Table.imported m l)) = refl
  imports-stored (memory_field d (Memory.imported m l)) = refl
  imports-stored (global_field d (Global.imported m g)) = refl
  imports-stored _ = refl

  pub funcs-stored : (f : Field) → FieldPlaced f
      → old_funcs.field_funcs all (field_as f) ≡ field_funcs (context_of ws) f
  funcs-stored (func_field token d (Function.code u ls c)) h = ap (λ (x : Func). x ∷ []) (func-same ws token u ls c h)
  funcs-stored _ h = refl

  pub tables-stored : (f : Field) → old_ranges.field_tables (field_as f) ≡ field_tables f
  tables-stored (table_field d (Table.imported m l)) = refl
  tables-stored (table_field d (Table.limits l)) = refl
  tables-stored (table_field d (Table.elements xs)) =
      ap (λ (n : ℕ). exactly n ∷ []) (length-map xs index_as)
  tables-stored _ = refl

  pub memories-stored : (f : Field) → old_ranges.field_memories (field_as f) ≡ field_memories f
  memories-stored (memory_field d (Memory.imported m l)) = refl
  memories-stored _ = refl

  global-same : (g : GlobalType) {x y : Code Instr BlockType} → x ≡ y
      → ◌≡◌ {A = List GlobalOf} (record { ty = g; init = x } ∷ []) (record { ty = g; init = y } ∷ [])
  global-same g e = λ i. record { ty = g; init = e i } ∷ []

  pub globals-stored : (f : Field) → FieldPlaced f
      → old_globals.field_globals all (field_as f) ≡ field_globals (context_of ws) f
  globals-stored (global_field d (Global.init g c)) h = global-same g (constant-same ws c h)
  globals-stored _ h = refl

  -- ---- exports, and the start function

  exported-texts : (k : ExportKind)
      → old_indices.declared_in (old_indices.space_kind k) all ≡ map bytes_in (exported (context_of ws) k)
  exported-texts kind.Func = space-texts kind.Func ws
  exported-texts kind.Table = space-texts kind.Table ws
  exported-texts kind.Memory = space-texts kind.Memory ws
  exported-texts kind.Global = space-texts kind.Global ws

  pub exports-stored : (before : List Field) (f : Field) → FieldPlaced f
      → old_exports.field_exports all (counts_of before) (field_as f) ≡ field_exports (context_of ws) before f
  exports-stored before (export_field name k x) h =
      ap (λ (n : ℕ). old_exports.export k n name ∷ [])
      (index-written (old_indices.declared_in (old_indices.space_kind k) all) (exported (context_of ws) k)
      (exported-texts k) x)
  exports-stored before _ h = refl

  abbrev funcs_in : Declared
  funcs_in = old_indices.declared_in old_kind.Func all

  -- no other start function is behind these
  abbrev pub second : ℕ × Index → Faults
  second s = fault s.0 SecondStart

  start-stays : (fs : List Field) (known : Option ℕ) → flat_map second (starts fs) ≡ []
      → old_start.start_from all known (map field_as fs) ≡ known
  start-stays [] known h = refl
  start-stays (start_field token x ∷ fs) known h = absurd cc
  start-stays (_ ∷ fs) known h = start-stays fs known h

  pub start-found : (fs : List Field) → flat_map second (drop 1 (starts fs)) ≡ []
      → old_start.start_from all None (map field_as fs) ≡ start_of (context_of ws) fs
  start-found [] h = refl
  start-found (start_field token x ∷ fs) h =
      start-stays fs (Some (named_index funcs_in (index_as x))) h
      ∙ ap (λ (n : ℕ). Some n) (index-written funcs_in (space kind.Func ws) (space-texts kind.Func ws) x)
  start-found (_ ∷ fs) h = start-found fs h

  -- ---- segments

  elem-same : {t u : ℕ} {x y : Code Instr BlockType} {ns ms : List ℕ} → t ≡ u → x ≡ y → ns ≡ ms
      → elem t x ns ∷ [] ≡ elem u y ms ∷ []
  elem-same e f g = λ i. elem (e i) (f i) (g i) ∷ []

  pub elems-stored : (before : List Field) (f : Field) → FieldPlaced f
      → old_segments.field_elems all (counts_of before) (field_as f) ≡ field_elems (context_of ws) before f
  elems-stored before (table_field d (Table.imported m l)) h = refl
  elems-stored before (table_field d (Table.limits l)) h = refl
  elems-stored before (table_field d (Table.elements xs)) h =
      elem-same refl refl (indices-written funcs_in (space kind.Func ws) (space-texts kind.Func ws) xs)
  elems-stored before (elem_field t c xs) h =
      elem-same (target-written _ (space kind.Table ws) (space-texts kind.Table ws) t) (constant-same ws c h)
      (indices-written funcs_in (space kind.Func ws) (space-texts kind.Func ws) xs)
  elems-stored before _ h = refl

  data-same : {t u : ℕ} {x y : Code Instr BlockType} (bytes : List ℕ) → t ≡ u → x ≡ y
      → segment t x bytes ∷ [] ≡ segment u y bytes ∷ []
  data-same bytes e f = λ i. segment (e i) (f i) bytes ∷ []

  pub datas-stored : (before : List Field) (f : Field) → FieldPlaced f
      → old_segments.field_datas all (counts_of before) (field_as f) ≡ field_datas (context_of ws) before f
  datas-stored before (memory_field d (Memory.imported m l)) h = refl
  datas-stored before (memory_field d (Memory.limits l)) h = refl
  datas-stored before (memory_field d (Memory.bytes bytes)) h = refl
  datas-stored before (data_field m c bytes) h =
      data-same bytes (target-written _ (space kind.Memory ws) (space-texts kind.Memory ws) m) (constant-same ws c h)
  datas-stored before _ h = refl

  -- ---- what is wrong

  pub globals-judged : (f : Field) → FieldPlaced f
      → old_globals.global_faults all (field_as f) ≡ global_faults (context_of ws) f
  globals-judged (global_field d (Global.init g c)) h = constant-judged ws c h
  globals-judged _ h = refl

  pub exports-judged : (f : Field) → old_exports.export_faults all (field_as f) ≡ export_faults (context_of ws) f
  exports-judged (export_field name k x) =
      index-judged (old_indices.declared_in (old_indices.space_kind k) all) (exported (context_of ws) k)
      (exported-texts k) x
  exports-judged _ = refl

  pub starts-judged : (f : Field) → old_start.start_faults all (field_as f) ≡ start_faults (context_of ws) f
  starts-judged (start_field token x) = index-judged funcs_in (space kind.Func ws) (space-texts kind.Func ws) x
  starts-judged _ = refl

  pub elems-judged : (f : Field) → FieldPlaced f
      → old_segments.elem_faults all (field_as f) ≡ elem_faults (context_of ws) f
  elems-judged (table_field d (Table.imported m l)) h = refl
  elems-judged (table_field d (Table.limits l)) h = refl
  elems-judged (table_field d (Table.elements xs)) h =
      indices-judged funcs_in (space kind.Func ws) (space-texts kind.Func ws) xs
  elems-judged (elem_field t c xs) h =
      both (target-judged _ (space kind.Table ws) (space-texts kind.Table ws) t)
      (both (constant-judged ws c h) (indices-judged funcs_in (space kind.Func ws) (space-texts kind.Func ws) xs))
  elems-judged _ h = refl

  pub datas-judged : (f : Field) → FieldPlaced f
      → old_segments.data_faults all (field_as f) ≡ data_faults (context_of ws) f
  datas-judged (data_field m c bytes) h =
      both (target-judged _ (space kind.Memory ws) (space-texts kind.Memory ws) m) (constant-judged ws c h)
  datas-judged _ h = refl

  pub funcs-judged : (f : Field) → FieldPlaced f
      → old_funcs.field_func_faults all (field_as f) ≡ func_faults (context_of ws) f
  funcs-judged (func_field token d (Function.code u ls c)) h = func-judged ws token u ls c h
  funcs-judged _ h = refl
