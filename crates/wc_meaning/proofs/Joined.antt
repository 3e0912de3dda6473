-- The module of a text and its first fault are those of its fields as they are stored.
use Rattle.std.proofs.Common.{◌≡◌, ℕ, List, [], ◌∷◌, ◌++◌, map, Option, Some, None, refl, sym, ap, ap₂, ◌∙◌}
use Rattle.std.specs.List.{flat_map}
use Rattle.std.specs.Option.{option_or}
use Rattle.wc_ast.specs.declared.module.Module.{Module}
use Rattle.wc_spaces.specs.declared.noted.Fault.{Fault}
use Rattle.wc_spaces.specs.Standard.Least.{least}
use Rattle.wc_spaces.proofs.Least.{least-none}
use Rattle.wc_resolve_code.specs.declared.why.NameWhy.{NameWhy}
use Rattle.wc_surface.specs.declared.field.Field.{Field as StoredField}
use Rattle.wc_surface.specs.Standard.Written.Fields.{Field}
use Rattle.wc_parse_field.specs.Stored.Fields.{field_as}
use Rattle.wc_declare.specs.Standard.Inner as old_inner
use Rattle.wc_declare.specs.Standard.Stages as old_stages
use Rattle.wc_resolve.specs.Standard.Imports as old_imports
use Rattle.wc_resolve.specs.Standard.Ranges as old_ranges
use Rattle.wc_resolve.specs.Standard.Globals as old_globals
use Rattle.wc_resolve.specs.Standard.Exports as old_exports
use Rattle.wc_resolve.specs.Standard.Start as old_start
use Rattle.wc_resolve.specs.Standard.Segments as old_segments
use Rattle.wc_resolve.specs.Standard.Funcs as old_funcs
use Rattle.wc_resolve.specs.Standard.Denoted as old
use Rattle.wc_meaning.specs.Standard.Contexts.{Context, Faults}
use Rattle.wc_meaning.specs.Standard.Spaces.{space_faults}
use Rattle.wc_meaning.specs.Standard.Order.{late_imports, second_starts}
use Rattle.wc_meaning.specs.Standard.Inner.{inner_faults}
use Rattle.wc_meaning.specs.Standard.Functions.{field_funcs, func_faults, field_globals, global_faults}
use Rattle.wc_meaning.specs.Standard.Imports.{field_imports}
use Rattle.wc_meaning.specs.Standard.Exports.{field_exports, export_faults, start_faults}
use Rattle.wc_meaning.specs.Standard.Ranges.{field_tables, field_memories}
use Rattle.wc_meaning.specs.Standard.Segments.{field_elems, elem_faults, field_datas, data_faults}
use Rattle.wc_meaning.specs.Standard.Denoted.{context_of, denoted_in, declaration_faults, all_use_faults}
use Rattle.wc_meaning.specs.Standard.Denoted.{reference_faults, first_fault, FirstFault, Means}
use Rattle.wc_meaning.specs.Stored.Placed.{FieldPlaced, ArePlaced}
use Rattle.wc_meaning.proofs.Lists.{both, flat-mapped, flat-where}
use Rattle.wc_meaning.proofs.Codes.Repeated.{inner-stored}
use Rattle.wc_meaning.proofs.Spaced.{space-faults-stored}
use Rattle.wc_meaning.proofs.Ordered.{late-stored, second-stored}
use Rattle.wc_meaning.proofs.Types.Typed.{types-same}
use Rattle.wc_meaning.proofs.Types.Judged.{uses-judged}
use Rattle.wc_meaning.proofs.Listed.{along-same, imports-stored, funcs-stored, tables-stored, memories-stored}
use Rattle.wc_meaning.proofs.Listed.{globals-stored, exports-stored, start-found, elems-stored, datas-stored}
use Rattle.wc_meaning.proofs.Listed.{globals-judged, exports-judged, starts-judged, elems-judged, datas-judged}
use Rattle.wc_meaning.proofs.Listed.{funcs-judged}

nothing-behind : {X : Type 0} (xs ys : List X) → xs ++ ys ≡ [] → ys ≡ []
nothing-behind [] ys e = e
nothing-behind (x ∷ xs) ys e = absurd cc

nothing-before : {X : Type 0} (xs ys : List X) → xs ++ ys ≡ [] → xs ≡ []
nothing-before [] ys e = refl
nothing-before (x ∷ xs) ys e = absurd cc

nothing-first : (a b : Option (Fault NameWhy)) → option_or a b ≡ None → a ≡ None
nothing-first None b e = refl
nothing-first (Some f) b e = e

stages-same : (a b c : Option (Fault NameWhy))
    → old_stages.or_else (old_stages.or_else a b) c ≡ option_or a (option_or b c)
stages-same None None c = refl
stages-same None (Some f) c = refl
stages-same (Some f) b c = refl

module _ (ws : List Field) where
  abbrev all : List StoredField
  all = map field_as ws

  abbrev c : Context
  c = context_of ws

  -- ---- the first fault

  declarations-same : old_stages.declaration_faults all ≡ declaration_faults ws
  declarations-same =
      both (space-faults-stored ws) (both (late-stored ws) (both (second-stored ws)
      (flat-mapped field_as old_inner.inner_faults inner_faults inner-stored ws)))

  references-same : ArePlaced ws → old.reference_faults all ≡ reference_faults c ws
  references-same p =
      both (flat-where field_as FieldPlaced (old_globals.global_faults all) (global_faults c) (globals-judged ws) ws p)
      (both (flat-mapped field_as (old_exports.export_faults all) (export_faults c) (exports-judged ws) ws)
      (both (flat-mapped field_as (old_start.start_faults all) (start_faults c) (starts-judged ws) ws)
      (both (flat-where field_as FieldPlaced (old_segments.elem_faults all) (elem_faults c) (elems-judged ws) ws p)
      (both (flat-where field_as FieldPlaced (old_segments.data_faults all) (data_faults c) (datas-judged ws) ws p)
      (flat-where field_as FieldPlaced (old_funcs.field_func_faults all) (func_faults c) (funcs-judged ws) ws p)))))

  pub fault-same : ArePlaced ws → old.first_fault all ≡ first_fault ws
  fault-same p =
      ap₂ (λ (fs gs : Faults). old_stages.or_else (old_stages.or_else (least fs) (least gs))
      (least (old.reference_faults all)))
      declarations-same (uses-judged ws)
      ∙ ap (λ (fs : Faults). old_stages.or_else
      (old_stages.or_else (least (declaration_faults ws)) (least (all_use_faults c ws))) (least fs)) (references-same p)
      ∙ stages-same (least (declaration_faults ws)) (least (all_use_faults c ws)) (least (reference_faults c ws))

  -- ---- the module

  -- without a fault there is one start function at most
  one-start : first_fault ws ≡ None → second_starts ws ≡ []
  one-start e =
      let none : declaration_faults ws ≡ [] = least-none (declaration_faults ws) (nothing-first _ _ e) in
      nothing-before (second_starts ws) (flat_map inner_faults ws)
      (nothing-behind (late_imports ws) _ (nothing-behind (space_faults ws) _ none))

  pub module-same : ArePlaced ws → first_fault ws ≡ None → old.denoted all ≡ denoted_in c ws
  module-same p e =
      let types = types-same ws in
      let imports = flat-mapped field_as (old_imports.field_imports all) (field_imports c) (imports-stored ws) ws in
      let funcs =
      flat-where field_as FieldPlaced (old_funcs.field_funcs all) (field_funcs c) (funcs-stored ws) ws p in
      let tables = flat-mapped field_as old_ranges.field_tables field_tables (tables-stored ws) ws in
      let mems = flat-mapped field_as old_ranges.field_memories field_memories (memories-stored ws) ws in
      let globals =
      flat-where field_as FieldPlaced (old_globals.field_globals all) (field_globals c) (globals-stored ws) ws p in
      let exports = along-same (old_exports.field_exports all) (field_exports c) (exports-stored ws) [] ws p in
      let start = start-found ws ws (one-start e) in
      let elems = along-same (old_segments.field_elems all) (field_elems c) (elems-stored ws) [] ws p in
      let datas = along-same (old_segments.field_datas all) (field_datas c) (datas-stored ws) [] ws p in
      λ i. record {
        types = types i;
        imports = imports i;
        funcs = funcs i;
        tables = tables i;
        mems = mems i;
        globals = globals i;
        exports = exports i;
        start = start i;
        elems = elems i;
        datas = datas i;
      }

  pub means-stored : (m : Module) → ArePlaced ws → Means ws m → old.Names all m
  means-stored m p h = record { right = fault-same p ∙ h.right; same = h.same ∙ sym (module-same p h.right) }

  pub stored-means : (m : Module) → ArePlaced ws → old.Names all m → Means ws m
  stored-means m p h =
      let right : first_fault ws ≡ None = sym (fault-same p) ∙ h.right in
      record { right = right; same = h.same ∙ module-same p right }

  pub fault-stored : (token : ℕ) (why : NameWhy) → ArePlaced ws → FirstFault ws token why → old.FirstFault all token why
  fault-stored token why p h = fault-same p ∙ h

  pub stored-fault : (token : ℕ) (why : NameWhy) → ArePlaced ws → old.FirstFault all token why → FirstFault ws token why
  stored-fault token why p h = sym (fault-same p) ∙ h
