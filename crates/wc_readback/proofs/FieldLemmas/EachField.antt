-- Each field is read as what it says.
use Rattle.std.proofs.Common.{◌≡◌, ℕ, suc, ◌+◌, Bool, true, false, List, [], ◌∷◌, ◌++◌, length, refl, ap, ◌∙◌}
use Rattle.std.proofs.Common.{append_assoc, Option, Some, None, IsUtf8}
use Rattle.std.specs.Prelude.{if◌then◌else◌}
use Rattle.std.specs.Str.{is_utf8}
use Rattle.std.proofs.lemmas.Str.{is_utf8-from_IsUtf8}
use Rattle.wc_ops.specs.declared.val_type.ValType.{ValType}
use Rattle.wc_ast.specs.declared.func_type.FuncType.{FuncType}
use Rattle.wc_ast.specs.declared.limits.Limits.{Limits}
use Rattle.wc_ast.specs.declared.import.Desc.{Desc}
use Rattle.wc_ast.specs.declared.import.Desc.TheVariants as descs
use Rattle.wc_ast.specs.declared.import.Import.{Import}
use Rattle.wc_ast.specs.declared.export.ExportKind.{ExportKind}
use Rattle.wc_ast.specs.declared.export.ExportKind.TheVariants as export_kinds
use Rattle.wc_body.specs.Standard.ValueBytes.{Fits32}
use Rattle.wc_syntax.specs.declared.kind.Kind.TheVariants as kind
use Rattle.wc_syntax.specs.declared.role.Role.TheVariants as role
use Rattle.wc_surface.specs.declared.field.Field.{Field}
use Rattle.wc_surface.specs.declared.field.Field.TheVariants as field
use Rattle.wc_surface.specs.declared.field.ImportDesc.TheVariants as import
use Rattle.wc_surface.specs.Standard.Keys.{func_type}
use Rattle.wc_surface.specs.declared.type_use.User.TheVariants as user
use Rattle.wc_readback.specs.Grammar.Signs.{Sign, closes, ends, key, natural, string}
use Rattle.wc_readback.specs.Grammar.InstructionSigns.{values_signs, code_signs, naturals}
use Rattle.wc_readback.specs.Grammar.FieldSigns.{type_signs, max_signs, limits_signs, desc_signs, import_signs}
use Rattle.wc_readback.specs.Grammar.FieldSigns.{export_signs, func_signs, global_signs, elem_signs, data_signs}
use Rattle.wc_readback.specs.Grammar.FieldSigns.{table_signs, memory_signs, globaltype_signs, start_signs}
use Rattle.wc_readback.specs.Grammar.Kept.{said_as, said_from}
use Rattle.wc_readback.specs.Grammar.Fitting.{FitsLimits, FitsOptional, FitsDesc, FitsImport, FitsExport, FitsFunc}
use Rattle.wc_readback.specs.Grammar.Fitting.{FitsGlobal, FitsElem, FitsData}
use Rattle.wc_parse_code.specs.declared.word.Word.{Word}
use Rattle.wc_parse_code.specs.Drafting.Words.{index_by, number_in}
use Rattle.wc_parse_code.specs.Drafting.Uses.{started_use}
use Rattle.wc_parse_field.specs.declared.field_draft.FieldDraft.{FieldDraft}
use Rattle.wc_parse_field.specs.Drafting.Fields.{started, unnamed, first_limits, name_of, with_min, with_max}
use Rattle.wc_readback.specs.Instructions.Words.{word_of, taken}
use Rattle.wc_readback.proofs.InstructionLemmas.Marks.{number}
use Rattle.wc_readback.specs.Fields.Surface.{use_by, locals_along, indices_along, type_field, import_field, func_field}
use Rattle.wc_readback.specs.Fields.Surface.{table_field, memory_field, global_field, export_field, start_field}
use Rattle.wc_readback.specs.Fields.Surface.{elem_field, data_field}
use Rattle.wc_readback.proofs.FieldLemmas.Coding.{coded, begun, body}
use Rattle.wc_readback.proofs.InstructionLemmas.Finished.{told-body}
use Rattle.wc_parse_code.specs.Drafting.Ending.{nothing_said}
use Rattle.wc_symbols.specs.declared.symbol.Value.TheVariants.{Number}
use Rattle.wc_surface.specs.declared.head.TextBody.{TextBody}
use Rattle.wc_surface.specs.declared.id.Index.TheVariants as index
use Rattle.wc_surface.specs.declared.field.FuncDesc.TheVariants as func
use Rattle.wc_surface.specs.declared.field.GlobalDesc.TheVariants as global
use Rattle.wc_parse.specs.declared.text_draft.TextDraft.{TextDraft}
use Rattle.wc_readback.proofs.FieldLemmas.Taking.{state, fresh, read, on, Reads}
use Rattle.wc_readback.proofs.FieldLemmas.Lists.{typed, with_locals, with_elements, all-params, all-results, all-locals}
use Rattle.wc_readback.proofs.FieldLemmas.Lists.{elements}

name-by : (bytes : List ℕ) (b : Bool) → is_utf8 bytes ≡ b → is_utf8 bytes ≡ true → (if b then bytes else []) ≡ bytes
name-by bytes true e f = refl
name-by bytes false e f = absurd cc

pub name-is : (bytes : List ℕ) → IsUtf8 bytes → name_of bytes ≡ bytes
name-is bytes u = name-by bytes (is_utf8 bytes) refl (is_utf8-from_IsUtf8 bytes u)

regroup : (a b c d : List Sign) → (a ++ (b ++ c)) ++ d ≡ a ++ (b ++ (c ++ d))
regroup a b c d = simp append_assoc refl

-- a field with these limits, and one with this type of a global
abbrev with_limits : FieldDraft → ℕ → Option ℕ → FieldDraft
with_limits d a m = record d { limits = record { min = a; max = m } }

abbrev with_global : FieldDraft → ValType → Bool → FieldDraft
with_global d t mutable = record d { global = record { ty = t; mutable = mutable } }

-- an import of these names
abbrev imported : ℕ → List ℕ → List ℕ → FieldDraft
imported n asked item =
    record (started kind.ImportWord n) { names = record (unnamed (Some n)) { «module» = asked; item = item } }

-- a segment of this table or memory
abbrev aimed : FieldDraft → Option ℕ → Word → FieldDraft
aimed d o w = record d { contents = record d.contents { target = Some (index_by o w) } }

module _ (addresses : ℕ → ℕ × ℕ) where
  pub types : Reads addresses (λ (t : FuncType). Unit {0}) type_signs type_field
  types fs n t h =
      let d = started kind.TypeWord (suc n) in
      let at = suc (suc (suc (suc n))) in
      let ps = values_signs kind.ParamWord role.ParamType t.params in
      let rs = values_signs kind.ResultWord role.ResultType t.results in
      ap (read addresses (state fs d) at) (regroup ps rs (closes ∷ []) (ends ∷ []))
      ∙ (on addresses (state fs d) (state fs (typed d t.params [])) at ps (rs ++ (closes ∷ ends ∷ []))
      (all-params addresses fs d at t.params)
      ∙ on addresses (state fs (typed d t.params [])) (state fs (typed d t.params t.results)) (length ps + at) rs
      (closes ∷ ends ∷ []) (all-results addresses fs d (length ps + at) t.params t.results))

  most : (fs : List Field) (d : FieldDraft) (n a : ℕ) (m : Option ℕ) → FitsOptional m
      → read addresses (state fs (with_limits d a None)) n (max_signs m) ≡ state fs (with_limits d a m)
  most fs d n a None h = refl
  most fs d n a (Some k) h =
      ap (λ (x : Option ℕ). state fs (record d { limits = with_max x (record { min = a; max = None }) })) (number k h)

  pub limits : (fs : List Field) (d : FieldDraft) (n : ℕ) (l : Limits) → FitsLimits l
      → read addresses (state fs (with_limits d 0 None)) n (limits_signs l) ≡ state fs (with_limits d l.min l.max)
  limits fs d n l h =
      ap (λ (x : Option ℕ). read addresses (state fs (record d { limits = with_min x first_limits })) (suc n)
      (max_signs l.max)) (number l.min h.0)
      ∙ most fs d (suc n) l.min l.max h.1

  pub tables : Reads addresses FitsLimits table_signs table_field
  tables fs n l h =
      let d = started kind.TableWord (suc n) in
      let at = suc (suc n) in
      ap (read addresses (state fs d) at) (append_assoc (limits_signs l) (key kind.FuncrefWord ∷ []) (ends ∷ []))
      ∙ on addresses (state fs d) (state fs (with_limits d l.min l.max)) at (limits_signs l)
      (key kind.FuncrefWord ∷ ends ∷ []) (limits fs d at l h)

  pub memories : Reads addresses FitsLimits memory_signs memory_field
  memories fs n l h =
      let d = started kind.MemoryWord (suc n) in
      let at = suc (suc n) in
      on addresses (state fs d) (state fs (with_limits d l.min l.max)) at (limits_signs l) (ends ∷ [])
      (limits fs d at l h)

  pub starts : (fs : List Field) (n i : ℕ) → Fits32 i
      → read addresses (fresh fs) n (start_signs (Some i)) ≡ fresh (fs ++ start_field n i ∷ [])
  starts fs n i h =
      let w = word_of addresses (said_as role.Target (suc (suc n)) (natural role.Target i)) in
      ap (λ (x : Option ℕ). fresh (fs ++ field.Start (record { token = suc n; index = index_by x w }) ∷ []))
      (number i h)

  global-type : (fs : List Field) (d : FieldDraft) (n : ℕ) (mutable : Bool) (t : ValType)
      → read addresses (state fs (record d { global = record d.global { mutable = false } })) n
      (globaltype_signs mutable t)
      ≡ state fs (with_global d t mutable)
  global-type fs d n false t = refl
  global-type fs d n true t = refl

  -- what an import brings
  brings : (fs : List Field) (n : ℕ) (i : Import) → FitsImport i
      → read addresses (state fs (imported (suc n) i.«module» i.name))
      (suc (suc (suc (suc (suc n))))) (desc_signs i.desc ++ (closes ∷ ends ∷ []))
      ≡ fresh (fs ++ import_field n i ∷ [])
  brings fs n i h = by-desc i.desc h.2
    where
      by-desc : (t : Desc) → FitsDesc t
          → read addresses (state fs (imported (suc n) i.«module» i.name))
          (suc (suc (suc (suc (suc n))))) (desc_signs t ++ (closes ∷ ends ∷ []))
          ≡ fresh (fs ++ import_field n (record i { desc = t }) ∷ [])
      by-desc (descs.Func index) k =
          let w = word_of addresses (said_as role.TypeIndex (suc (suc (suc (suc (suc (suc (suc (suc n))))))))
          (natural role.TypeIndex index)) in
          ap (λ (x : Option ℕ). fresh (fs ++ field.Import (record {
            names = record { token = suc n; «module» = i.«module»; item = i.name };
            id = None;
            desc = import.Func (record {
              user = user.Func;
              token = suc n;
              index = Some (index_by x w);
              signature = func_type [] [];
              names = [];
            });
          }) ∷ [])) (number index k)
      by-desc (descs.Table l) k =
          let d = record (imported (suc n) i.«module» i.name) { description = export_kinds.Table } in
          let at = suc (suc (suc (suc (suc (suc n))))) in
          ap (read addresses (state fs d) at)
          (append_assoc (limits_signs l) (key kind.FuncrefWord ∷ []) (closes ∷ ends ∷ []))
          ∙ on addresses (state fs d) (state fs (with_limits d l.min l.max)) at (limits_signs l)
          (key kind.FuncrefWord ∷ closes ∷ ends ∷ []) (limits fs d at l k)
      by-desc (descs.Memory l) k =
          let d = record (imported (suc n) i.«module» i.name) { description = export_kinds.Memory } in
          let at = suc (suc (suc (suc (suc (suc n))))) in
          on addresses (state fs d) (state fs (with_limits d l.min l.max)) at (limits_signs l)
          (closes ∷ ends ∷ []) (limits fs d at l k)
      by-desc (descs.Global g) k =
          let d = record (imported (suc n) i.«module» i.name) { description = export_kinds.Global } in
          let at = suc (suc (suc (suc (suc (suc n))))) in
          on addresses (state fs d) (state fs (with_global d g.ty g.mutable)) at
          (globaltype_signs g.mutable g.ty) (closes ∷ ends ∷ []) (global-type fs d at g.mutable g.ty)

  pub imports : Reads addresses FitsImport import_signs import_field
  imports fs n i h =
      let at = suc (suc (suc (suc (suc n)))) in
      let rest = desc_signs i.desc ++ (closes ∷ ends ∷ []) in
      ap (λ (x : List ℕ). read addresses (state fs (imported (suc n) x (name_of i.name))) at rest)
      (name-is i.«module» h.0)
      ∙ (ap (λ (x : List ℕ). read addresses (state fs (imported (suc n) i.«module» x)) at rest) (name-is i.name h.1)
      ∙ brings fs n i h)

  abbrev lent : List Field → ℕ → ExportKind → ℕ → List ℕ → Option ℕ → TextDraft
  lent fs n k i x o =
      let w = word_of addresses (said_as role.Target (suc (suc (suc (suc (suc n))))) (natural role.Target i)) in
      fresh (fs ++ field.Export (record { name = x; kind = k; index = index_by o w }) ∷ [])

  named : (fs : List Field) (n : ℕ) (k : ExportKind) (i : ℕ) (bytes : List ℕ) → IsUtf8 bytes → Fits32 i
      → lent fs n k i (name_of bytes) (number_in (Number i)) ≡ lent fs n k i bytes (Some i)
  named fs n k i bytes u lt =
      ap (λ (x : List ℕ). lent fs n k i x (number_in (Number i))) (name-is bytes u)
      ∙ ap (lent fs n k i bytes) (number i lt)

  by-kind : (fs : List Field) (n : ℕ) (k : ExportKind) (i : ℕ) (bytes : List ℕ) → IsUtf8 bytes → Fits32 i
      → read addresses (fresh fs) n (export_signs (record { name = bytes; kind = k; index = i }))
      ≡ fresh (fs ++ export_field n (record { name = bytes; kind = k; index = i }) ∷ [])
  by-kind fs n export_kinds.Func i bytes u lt = named fs n export_kinds.Func i bytes u lt
  by-kind fs n export_kinds.Table i bytes u lt = named fs n export_kinds.Table i bytes u lt
  by-kind fs n export_kinds.Memory i bytes u lt = named fs n export_kinds.Memory i bytes u lt
  by-kind fs n export_kinds.Global i bytes u lt = named fs n export_kinds.Global i bytes u lt

  pub exports : Reads addresses FitsExport export_signs export_field
  exports fs n e h = by-kind fs n e.kind e.index e.name h.0 h.1

  pub globals : Reads addresses FitsGlobal global_signs global_field
  globals fs n g h =
      let d = started kind.GlobalWord (suc n) in
      let e = with_global d g.ty.ty g.ty.mutable in
      let at = suc (suc n) in
      let ts = globaltype_signs g.ty.mutable g.ty.ty in
      let cs = code_signs g.init in
      let code = length ts + at in
      ap (read addresses (state fs d) at) (append_assoc ts cs (ends ∷ []))
      ∙ (on addresses (state fs d) (state fs e) at ts (cs ++ (ends ∷ [])) (global-type fs d at g.ty.mutable g.ty.ty)
      ∙ (on addresses (state fs e)
      (state fs (coded e (begun g.init) (taken addresses nothing_said (said_from code cs)))) code cs (ends ∷ [])
      (body addresses fs e code nothing_said g.init)
      ∙ ap (λ (b : TextBody). fresh (fs ++ field.Global (record {
        id = None;
        exports = [];
        ty = g.ty;
        desc = global.Init b;
      }) ∷ [])) (told-body addresses code g.init h)))

  pub funcs : Reads addresses FitsFunc func_signs func_field
  funcs fs n f h =
      let d = started kind.FuncWord (suc n) in
      let w = word_of addresses (said_as role.TypeIndex (suc (suc (suc (suc n)))) (natural role.TypeIndex f.ty)) in
      let e = record d { ty = record (started_use user.Func (suc n)) { index = Some (index_by (Some f.ty) w) } } in
      let at = suc (suc (suc (suc (suc (suc n))))) in
      let ls = values_signs kind.LocalWord role.LocalType f.locals in
      let g = with_locals e (locals_along (suc (suc at)) f.locals) in
      let cs = code_signs f.body in
      let code = length ls + at in
      ap (λ (o : Option ℕ). read addresses (state fs (record d {
        ty = record (started_use user.Func (suc n)) { index = Some (index_by o w) };
      })) at ((ls ++ cs) ++ (ends ∷ [])))
      (number f.ty h.0)
      ∙ (ap (read addresses (state fs e) at) (append_assoc ls cs (ends ∷ []))
      ∙ (on addresses (state fs e) (state fs g) at ls (cs ++ (ends ∷ [])) (all-locals addresses fs e at f.locals)
      ∙ (on addresses (state fs g)
      (state fs (coded g (begun f.body) (taken addresses nothing_said (said_from code cs)))) code cs (ends ∷ [])
      (body addresses fs g code nothing_said f.body)
      ∙ ap (λ (b : TextBody). fresh (fs ++ field.Func (record {
        id = None;
        exports = [];
        ty = use_by (suc n) (suc (suc (suc (suc n)))) f.ty;
        desc = func.Code (locals_along (suc (suc at)) f.locals) b;
      }) ∷ [])) (told-body addresses code f.body h.1))))

  pub elems : Reads addresses FitsElem elem_signs elem_field
  elems fs n t h =
      let d = started kind.ElemWord (suc n) in
      let w = word_of addresses (said_as role.Target (suc (suc n)) (natural role.Target t.table)) in
      let e = aimed d (Some t.table) w in
      let at = suc (suc (suc (suc (suc n)))) in
      let cs = code_signs t.offset in
      let ns = naturals role.Element t.funcs in
      let code = taken addresses nothing_said (said_from at cs) in
      let g = coded e (begun t.offset) code in
      let after = suc (length cs + at) in
      ap (λ (o : Option ℕ). read addresses (state fs (aimed d o w)) at
      ((cs ++ (closes ∷ [])) ++ (ns ++ (ends ∷ [])))) (number t.table h.0)
      ∙ (ap (read addresses (state fs e) at) (append_assoc cs (closes ∷ []) (ns ++ (ends ∷ [])))
      ∙ (on addresses (state fs e) (state fs g) at cs (closes ∷ (ns ++ (ends ∷ [])))
      (body addresses fs e at nothing_said t.offset)
      ∙ (on addresses (state fs g) (state fs (with_elements g (indices_along after t.funcs))) after ns (ends ∷ [])
      (elements addresses fs g after [] t.funcs h.2)
      ∙ ap (λ (b : TextBody). fresh (fs ++ field.Elem (record {
        table = Some (index.Number (suc (suc n)) t.table);
        offset = b;
        funcs = indices_along after t.funcs;
      }) ∷ [])) (told-body addresses at t.offset h.1))))

  pub datas : Reads addresses FitsData data_signs data_field
  datas fs n t h =
      let d = started kind.DataWord (suc n) in
      let w = word_of addresses (said_as role.Target (suc (suc n)) (natural role.Target t.memory)) in
      let e = aimed d (Some t.memory) w in
      let at = suc (suc (suc (suc (suc n)))) in
      let cs = code_signs t.offset in
      let rest = string role.Bytes t.bytes ∷ ends ∷ [] in
      let g = coded e (begun t.offset) (taken addresses nothing_said (said_from at cs)) in
      ap (λ (o : Option ℕ). read addresses (state fs (aimed d o w)) at
      ((cs ++ (closes ∷ [])) ++ rest)) (number t.memory h.0)
      ∙ (ap (read addresses (state fs e) at) (append_assoc cs (closes ∷ []) rest)
      ∙ (on addresses (state fs e) (state fs g) at cs (closes ∷ rest) (body addresses fs e at nothing_said t.offset)
      ∙ ap (λ (b : TextBody). fresh (fs ++ field.Data (record {
        memory = Some (index.Number (suc (suc n)) t.memory);
        offset = b;
        bytes = t.bytes;
      }) ∷ [])) (told-body addresses at t.offset h.1)))
