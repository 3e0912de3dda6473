-- Lists of types, of locals and of indices, token by token.
use Rattle.std.proofs.Common.{◌≡◌, ℕ, suc, false, List, [], ◌∷◌, ◌++◌, map, refl, sym, ap, ◌∙◌, append_assoc}
use Rattle.std.proofs.Common.{Option, Some, None}
use Rattle.std.specs.List.{AllByRecursion}
use Rattle.std.proofs.lemmas.List.{append-nil}
use Rattle.wc_ops.specs.declared.val_type.ValType.{ValType}
use Rattle.wc_body.specs.Standard.ValueBytes.{Fits32}
use Rattle.wc_syntax.specs.declared.kind.Kind.TheVariants as kind
use Rattle.wc_syntax.specs.declared.role.Role.TheVariants as role
use Rattle.wc_surface.specs.declared.field.Field.{Field}
use Rattle.wc_surface.specs.declared.id.Index.{Index}
use Rattle.wc_surface.specs.declared.local.Local.{Local}
use Rattle.wc_surface.specs.Standard.WrittenLocals.{local}
use Rattle.wc_readback.specs.Grammar.Signs.{closes, type_sign, natural}
use Rattle.wc_readback.specs.Grammar.InstructionSigns.{values_signs, naturals}
use Rattle.wc_readback.specs.Grammar.Kept.{said_as}
use Rattle.wc_parse_code.specs.Drafting.Words.{index_by}
use Rattle.wc_parse_field.specs.declared.field_draft.FieldDraft.{FieldDraft}
use Rattle.wc_readback.specs.Instructions.Words.{word_of}
use Rattle.wc_readback.proofs.InstructionLemmas.Marks.{number}
use Rattle.wc_readback.specs.Fields.Surface.{locals_along, indices_along}
use Rattle.wc_readback.proofs.FieldLemmas.Taking.{state, read, on}

-- the field's own use has these parameters and results
abbrev pub typed : FieldDraft → List ValType → List ValType → FieldDraft
typed d ps rs =
    record d {
      code = record d.code { begun = false };
      ty = record d.ty { params = ps; pending = None; names = []; results = rs };
    }

-- these locals
abbrev pub with_locals : FieldDraft → List Local → FieldDraft
with_locals d ls = record d { locals = record { id = None; locals = ls } }

abbrev pub with_elements : FieldDraft → List Index → FieldDraft
with_elements d is = record d { contents = record d.contents { elements = is } }

module _ (addresses : ℕ → ℕ × ℕ) (fs : List Field) (d : FieldDraft) where
  params : (n : ℕ) (ps rs ts : List ValType)
      → read addresses (state fs (typed d ps rs)) n (map (type_sign role.ParamType) ts)
      ≡ state fs (typed d (ps ++ ts) rs)
  params n ps rs [] = ap (λ (x : List ValType). state fs (typed d x rs)) (sym (append-nil ps))
  params n ps rs (t ∷ ts) =
      params (suc n) (ps ++ t ∷ []) rs ts
      ∙ ap (λ (x : List ValType). state fs (typed d x rs)) (append_assoc ps (t ∷ []) ts)

  results : (n : ℕ) (ps rs ts : List ValType)
      → read addresses (state fs (typed d ps rs)) n (map (type_sign role.ResultType) ts)
      ≡ state fs (typed d ps (rs ++ ts))
  results n ps rs [] = ap (λ (x : List ValType). state fs (typed d ps x)) (sym (append-nil rs))
  results n ps rs (t ∷ ts) =
      results (suc n) ps (rs ++ t ∷ []) ts
      ∙ ap (λ (x : List ValType). state fs (typed d ps x)) (append_assoc rs (t ∷ []) ts)

  along-locals : (n : ℕ) (ls : List Local) (ts : List ValType)
      → read addresses (state fs (with_locals d ls)) n (map (type_sign role.LocalType) ts)
      ≡ state fs (with_locals d (ls ++ locals_along n ts))
  along-locals n ls [] = ap (λ (x : List Local). state fs (with_locals d x)) (sym (append-nil ls))
  along-locals n ls (t ∷ ts) =
      along-locals (suc n) (ls ++ local None t n ∷ []) ts
      ∙ ap (λ (x : List Local). state fs (with_locals d x))
      (append_assoc ls (local None t n ∷ []) (locals_along (suc n) ts))

  pub all-params : (n : ℕ) (ts : List ValType)
      → read addresses (state fs (typed d [] [])) n (values_signs kind.ParamWord role.ParamType ts)
      ≡ state fs (typed d ts [])
  all-params n [] = refl
  all-params n (t ∷ ts) =
      on addresses (state fs (typed d [] [])) (state fs (typed d (t ∷ ts) [])) (suc (suc n))
      (map (type_sign role.ParamType) (t ∷ ts)) (closes ∷ []) (params (suc (suc n)) [] [] (t ∷ ts))

  pub all-results : (n : ℕ) (ps ts : List ValType)
      → read addresses (state fs (typed d ps [])) n (values_signs kind.ResultWord role.ResultType ts)
      ≡ state fs (typed d ps ts)
  all-results n ps [] = refl
  all-results n ps (t ∷ ts) =
      on addresses (state fs (typed d ps [])) (state fs (typed d ps (t ∷ ts))) (suc (suc n))
      (map (type_sign role.ResultType) (t ∷ ts)) (closes ∷ []) (results (suc (suc n)) ps [] (t ∷ ts))

  pub all-locals : (n : ℕ) (ts : List ValType)
      → read addresses (state fs (with_locals d [])) n (values_signs kind.LocalWord role.LocalType ts)
      ≡ state fs (with_locals d (locals_along (suc (suc n)) ts))
  all-locals n [] = refl
  all-locals n (t ∷ ts) =
      on addresses (state fs (with_locals d [])) (state fs (with_locals d (locals_along (suc (suc n)) (t ∷ ts))))
      (suc (suc n)) (map (type_sign role.LocalType) (t ∷ ts)) (closes ∷ []) (along-locals (suc (suc n)) [] (t ∷ ts))

  pub elements : (n : ℕ) (is : List Index) (ns : List ℕ) → AllByRecursion Fits32 ns
      → read addresses (state fs (with_elements d is)) n (naturals role.Element ns)
      ≡ state fs (with_elements d (is ++ indices_along n ns))
  elements n is [] h = ap (λ (x : List Index). state fs (with_elements d x)) (sym (append-nil is))
  elements n is (i ∷ ns) h =
      ap (λ (x : Option ℕ). read addresses (state fs (with_elements d
      (is ++ index_by x (word_of addresses (said_as role.Element n (natural role.Element i))) ∷ []))) (suc n)
      (naturals role.Element ns)) (number i h.0)
      ∙ (elements (suc n)
      (is ++ index_by (Some i) (word_of addresses (said_as role.Element n (natural role.Element i))) ∷ []) ns h.1
      ∙ ap (λ (x : List Index). state fs (with_elements d x)) (append_assoc is _ (indices_along (suc n) ns)))
