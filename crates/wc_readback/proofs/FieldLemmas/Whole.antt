-- The fields of a whole module.
use Rattle.std.proofs.Common.{◌≡◌, ℕ, ◌+◌, List, [], ◌∷◌, ◌++◌, length, refl, sym, ap, ◌∙◌, append_assoc, Option, Some}
use Rattle.std.proofs.Common.{None}
use Rattle.std.specs.List.{AllByRecursion, flat_map}
use Rattle.std.proofs.lemmas.List.{append-nil}
use Rattle.wc_ast.specs.declared.func_type.FuncType.{FuncType}
use Rattle.wc_ast.specs.declared.module.Module.{Module}
use Rattle.wc_surface.specs.declared.field.Field.{Field}
use Rattle.wc_readback.specs.Grammar.Signs.{Sign, closes}
use Rattle.wc_readback.specs.Grammar.FieldSigns.{type_signs, import_signs, func_signs, table_signs, memory_signs}
use Rattle.wc_readback.specs.Grammar.FieldSigns.{global_signs, export_signs, start_signs, elem_signs, data_signs}
use Rattle.wc_readback.specs.Grammar.Fitting.{FitsOptional, FitsLimits, FitsImport, FitsFunc, FitsGlobal, FitsExport}
use Rattle.wc_readback.specs.Grammar.Fitting.{FitsElem, FitsData, Fits}
use Rattle.wc_parse.specs.declared.text_draft.TextDraft.{TextDraft}
use Rattle.wc_parse.specs.Kept.Texts.{said}
use Rattle.wc_readback.specs.Fields.Items.{items}
use Rattle.wc_readback.specs.Fields.Surface.{type_field, import_field, func_field, table_field, memory_field}
use Rattle.wc_readback.specs.Fields.Surface.{global_field, export_field, start_field, elem_field, data_field}
use Rattle.wc_readback.specs.Fields.Surface.{start_along, text_fields}
use Rattle.wc_readback.proofs.FieldLemmas.Taking.{fresh, read, on, Follows, lists}
use Rattle.wc_readback.proofs.FieldLemmas.EachField.{types, imports, funcs, tables, memories, globals, exports, starts}
use Rattle.wc_readback.proofs.FieldLemmas.EachField.{elems, datas}

abbrev Anything : FuncType → Type 0
Anything t = Unit {0}

all-anything : (ts : List FuncType) → AllByRecursion Anything ts
all-anything [] = tt
all-anything (t ∷ ts) = (tt, all-anything ts)

regrouped : (a b c d e f g h i j k : List Sign)
    → (a ++ (b ++ (c ++ (d ++ (e ++ (f ++ (g ++ (h ++ (i ++ j))))))))) ++ k
    ≡ a ++ (b ++ (c ++ (d ++ (e ++ (f ++ (g ++ (h ++ (i ++ (j ++ k)))))))))
regrouped a b c d e f g h i j k = simp append_assoc refl

module _ (addresses : ℕ → ℕ × ℕ) where
  start : (s : Option ℕ) → FitsOptional s → (rest : List Sign) (r : ℕ → List Field) → Follows addresses rest r
      → Follows addresses (start_signs s ++ rest) (λ n. start_along n s r)
  start None h rest r g fs n = g fs n
  start (Some i) h rest r g fs n =
      on addresses (fresh fs) (fresh (fs ++ start_field n i ∷ [])) n (start_signs (Some i)) rest
      (starts addresses fs n i h)
      ∙ (g (fs ++ start_field n i ∷ []) (length (start_signs (Some i)) + n)
      ∙ ap fresh (append_assoc fs (start_field n i ∷ []) (r (length (start_signs (Some i)) + n))))

  last : Follows addresses (closes ∷ []) (λ n. [])
  last fs n = ap fresh (sym (append-nil fs))

  pub whole : (m : Module) → Fits m → said (items addresses m) ≡ text_fields m
  whole m h =
      ap (λ (x : List Sign). (read addresses (fresh []) 2 x).fields)
      (regrouped (flat_map type_signs m.types) (flat_map import_signs m.imports) (flat_map func_signs m.funcs)
      (flat_map table_signs m.tables) (flat_map memory_signs m.mems) (flat_map global_signs m.globals)
      (flat_map export_signs m.exports) (start_signs m.start) (flat_map elem_signs m.elems)
      (flat_map data_signs m.datas) (closes ∷ []))
      ∙ ap (λ (x : TextDraft). x.fields)
      (lists addresses Anything type_signs type_field (types addresses) m.types (all-anything m.types) _ _
      (lists addresses FitsImport import_signs import_field (imports addresses) m.imports h.imports _ _
      (lists addresses FitsFunc func_signs func_field (funcs addresses) m.funcs h.funcs _ _
      (lists addresses FitsLimits table_signs table_field (tables addresses) m.tables h.tables _ _
      (lists addresses FitsLimits memory_signs memory_field (memories addresses) m.mems h.mems _ _
      (lists addresses FitsGlobal global_signs global_field (globals addresses) m.globals h.globals _ _
      (lists addresses FitsExport export_signs export_field (exports addresses) m.exports h.exports _ _
      (start m.start h.start _ _
      (lists addresses FitsElem elem_signs elem_field (elems addresses) m.elems h.elems _ _
      (lists addresses FitsData data_signs data_field (datas addresses) m.datas h.datas _ _ last))))))))) [] 2)
