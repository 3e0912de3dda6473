-- The fields of one kind give the list of this kind, and each field gives its part.
use Rattle.std.proofs.Common.{◌≡◌, ℕ, suc, List, [], ◌∷◌, ◌++◌, map, refl, ap, ◌∙◌}
use Rattle.std.specs.List.{AllByRecursion, flat_map}
use Rattle.wc_ops.specs.declared.val_type.ValType.{ValType}
use Rattle.wc_body.specs.declared.instr.BlockType.{BlockType}
use Rattle.wc_body.specs.declared.instr.Instr.{Instr}
use Rattle.wc_body.specs.Standard.Nested.{Code}
use Rattle.wc_ast.specs.declared.import.Desc.{Desc}
use Rattle.wc_ast.specs.declared.import.Desc.TheVariants as descs
use Rattle.wc_ast.specs.declared.import.Import.{Import}
use Rattle.wc_ast.specs.declared.func.Func.{Func}
use Rattle.wc_ast.specs.declared.func.Global.{Global}
use Rattle.wc_ast.specs.declared.segment.Elem.{Elem}
use Rattle.wc_ast.specs.declared.segment.Data.{Data}
use Rattle.wc_surface.specs.Standard.Keys.{key_of}
use Rattle.wc_surface.specs.declared.local.Local.{Local}
use Rattle.wc_surface.specs.declared.field.Field.{Field}
use Rattle.wc_spaces.specs.declared.noted.Fault.{Fault}
use Rattle.wc_resolve_code.specs.declared.why.NameWhy.{NameWhy}
use Rattle.wc_resolve_code.specs.Standard.Contexts.{Declared}
use Rattle.wc_declare.specs.declared.kind.SpaceKind.TheVariants as kind
use Rattle.wc_declare.specs.Standard.Spaces.{space, texts}
use Rattle.wc_declare.specs.Standard.Types.{types_of}
use Rattle.wc_resolve_func.specs.Standard.Contexts.{context_of}
use Rattle.wc_resolve_func.specs.Standard.Constants.{constant_of, constant_faults}
use Rattle.wc_resolve_func.specs.Standard.Funcs.{func_context}
use Rattle.wc_resolve.specs.declared.counts.Counts.{Counts}
use Rattle.wc_resolve.specs.Standard.Counts.{counts_after}
use Rattle.wc_resolve.specs.Standard.Counts.{along as counted}
use Rattle.wc_resolve.specs.Standard.Indices.{declared_in, indices_of, unknown_of}
use Rattle.wc_resolve.specs.Standard.Imports.{field_imports}
use Rattle.wc_resolve.specs.Standard.Funcs.{field_funcs, field_func_faults}
use Rattle.wc_resolve.specs.Standard.Globals.{field_globals, global_faults}
use Rattle.wc_resolve.specs.Standard.Segments.{field_elems, elem_faults}
use Rattle.wc_resolve.specs.Standard.Segments.{field_datas, data_faults}
use Rattle.wc_syntax.specs.declared.kind.Kind.TheVariants as syntax
use Rattle.wc_syntax.specs.declared.role.Role.TheVariants as role
use Rattle.wc_readback.specs.Grammar.Signs.{Sign}
use Rattle.wc_readback.specs.Grammar.InstructionSigns.{values_signs, code_signs}
use Rattle.wc_readback.specs.Instructions.Bodies.{text_body}
use Rattle.wc_readback.specs.Fields.Surface.{use_by, locals_along, indices_along, along, behind, import_field}
use Rattle.wc_readback.specs.Fields.Surface.{func_field, global_field, elem_field, data_field}
use Rattle.wc_readback.specs.Names.Known.{KnownCode, KnownFunc, KnownGlobal, KnownElem, KnownData}
use Rattle.wc_readback.proofs.NameLemmas.BodiesBack.{body-back, body-clean}

-- ---- the fields of one kind give the list of this kind

module _ {A : Type 0} (f : ℕ → A → Field) (w : A → List Sign) (Q : A → Type 0) where
  pub gathered : (g : Field → List A) → ((n : ℕ) (x : A) → Q x → g (f n x) ≡ x ∷ []) → (xs : List A)
      → AllByRecursion Q xs
      → (rest : ℕ → List Field) → ((n : ℕ) → flat_map g (rest n) ≡ []) → (n : ℕ) → flat_map g (along f w n xs rest) ≡ xs
  gathered g one [] q rest r n = r n
  gathered g one (x ∷ xs) q rest r n =
      ap (λ (ys : List A). ys ++ flat_map g (along f w (behind (w x) n) xs rest)) (one n x q.0)
      ∙ ap (λ (ys : List A). x ∷ ys) (gathered g one xs q.1 rest r (behind (w x) n))

  -- the same where it is known how much was declared before
  pub counted-up : (g : Counts → Field → List A) → ((c : Counts) (n : ℕ) (x : A) → Q x → g c (f n x) ≡ x ∷ [])
      → (xs : List A)
      → AllByRecursion Q xs → (rest : ℕ → List Field) → ((n : ℕ) (c : Counts) → counted g c (rest n) ≡ [])
      → (n : ℕ) (c : Counts) → counted g c (along f w n xs rest) ≡ xs
  counted-up g one [] q rest r n c = r n c
  counted-up g one (x ∷ xs) q rest r n c =
      let more = along f w (behind (w x) n) xs rest in
      ap (λ (ys : List A). ys ++ counted g (counts_after c (f n x)) more) (one c n x q.0)
      ∙ ap (λ (ys : List A). x ∷ ys) (counted-up g one xs q.1 rest r (behind (w x) n) (counts_after c (f n x)))

abbrev pub Any : {A : Type 0} → A → Type 0
Any x = Unit {0}

pub all-any : {A : Type 0} (xs : List A) → AllByRecursion (λ (x : A). Any x) xs
all-any [] = tt
all-any (x ∷ xs) = (tt, all-any xs)

-- ---- each field

pub same-locals : (n : ℕ) (ts : List ValType) → map (λ (l : Local). l.ty) (locals_along n ts) ≡ ts
same-locals n [] = refl
same-locals n (t ∷ ts) = ap (λ (x : List ValType). t ∷ x) (same-locals (suc n) ts)

pub same-indices : (ds : Declared) (n : ℕ) (is : List ℕ) → indices_of ds (indices_along n is) ≡ is
same-indices ds n [] = refl
same-indices ds n (i ∷ is) = ap (λ (x : List ℕ). i ∷ x) (same-indices ds (suc n) is)

pub known-indices : (ds : Declared) (n : ℕ) (is : List ℕ) → unknown_of ds (indices_along n is) ≡ []
known-indices ds n [] = refl
known-indices ds n (i ∷ is) = known-indices ds (suc n) is

abbrev pub made-elem : ℕ → Code Instr BlockType → List ℕ → Elem
made-elem table x funcs = record { table = table; offset = x; funcs = funcs }

abbrev pub made-func : ℕ → List ValType → Code Instr BlockType → Func
made-func ty ls x = record { ty = ty; locals = ls; body = x }

module _ (all : List Field) (k : ℕ) where
  pub constant-back : (n : ℕ) (x : Code Instr BlockType) → KnownCode k x → constant_of all (text_body n x) ≡ x
  constant-back n x h =
      body-back (context_of all [] (text_body n x)) (texts (space kind.Type all)) (map key_of (types_of all)) k n x h
      refl

  pub constant-clean : (n : ℕ) (x : Code Instr BlockType) → KnownCode k x → constant_faults all (text_body n x) ≡ []
  constant-clean n x h = body-clean (context_of all [] (text_body n x)) k n x h

  pub import-by : (n : ℕ) (i : Import) (d : Desc)
      → field_imports all (import_field n (record i { desc = d })) ≡ record i { desc = d } ∷ []
  import-by n i (descs.Func t) = refl
  import-by n i (descs.Table l) = refl
  import-by n i (descs.Memory l) = refl
  import-by n i (descs.Global g) = refl

  pub import-one : (n : ℕ) (i : Import) → Any i → field_imports all (import_field n i) ≡ i ∷ []
  import-one n i h = import-by n i i.desc

  pub func-parts : (ty : ℕ) (ls ms : List ValType) (x y : Code Instr BlockType) → ls ≡ ms → x ≡ y
      → made-func ty ls x ∷ [] ≡ made-func ty ms y ∷ []
  func-parts ty ls ms x y e f = rw (e, f) refl

  pub func-one : (n : ℕ) (f : Func) → KnownFunc k f → field_funcs all (func_field n f) ≡ f ∷ []
  func-one n f h =
      let after = suc (suc (suc (suc (suc (suc n))))) in
      let u = use_by (suc n) (suc (suc (suc (suc n)))) f.ty in
      let ls = locals_along (suc (suc after)) f.locals in
      let token = behind (values_signs syntax.LocalWord role.LocalType f.locals) after in
      let b = text_body token f.body in
      func-parts f.ty _ f.locals _ f.body (same-locals (suc (suc after)) f.locals)
      (body-back (func_context all u ls b) (texts (space kind.Type all)) (map key_of (types_of all)) k token f.body h.2
      refl)

  pub func-clean : (n : ℕ) (f : Func) → KnownFunc k f → field_func_faults all (func_field n f) ≡ []
  func-clean n f h =
      let after = suc (suc (suc (suc (suc (suc n))))) in
      let u = use_by (suc n) (suc (suc (suc (suc n)))) f.ty in
      let ls = locals_along (suc (suc after)) f.locals in
      let token = behind (values_signs syntax.LocalWord role.LocalType f.locals) after in
      body-clean (func_context all u ls (text_body token f.body)) k token f.body h.2

  pub global-one : (n : ℕ) (g : Global) → KnownGlobal k g → field_globals all (global_field n g) ≡ g ∷ []
  global-one n g h =
      ap (λ (x : Code Instr BlockType). record g { init = x } ∷ []) (constant-back _ g.init h)

  pub global-clean : (n : ℕ) (g : Global) → KnownGlobal k g → global_faults all (global_field n g) ≡ []
  global-clean n g h = constant-clean _ g.init h

  pub elem-one : (c : Counts) (n : ℕ) (e : Elem) → KnownElem k e → field_elems all c (elem_field n e) ≡ e ∷ []
  elem-one c n e h =
      let code = suc (suc (suc (suc (suc n)))) in
      let after = suc (behind (code_signs e.offset) code) in
      let ds = declared_in kind.Func all in
      ap (λ (x : Code Instr BlockType). made-elem e.table x (indices_of ds (indices_along after e.funcs)) ∷ [])
      (constant-back code e.offset h)
      ∙ ap (λ (x : List ℕ). made-elem e.table e.offset x ∷ []) (same-indices ds after e.funcs)

  pub elem-clean : (n : ℕ) (e : Elem) → KnownElem k e → elem_faults all (elem_field n e) ≡ []
  elem-clean n e h =
      let code = suc (suc (suc (suc (suc n)))) in
      let after = suc (behind (code_signs e.offset) code) in
      let ds = declared_in kind.Func all in
      ap (λ (x : List (Fault NameWhy)). x ++ unknown_of ds (indices_along after e.funcs))
      (constant-clean code e.offset h)
      ∙ known-indices ds after e.funcs

  pub data-one : (c : Counts) (n : ℕ) (d : Data) → KnownData k d → field_datas all c (data_field n d) ≡ d ∷ []
  data-one c n d h = ap (λ (x : Code Instr BlockType). record d { offset = x } ∷ []) (constant-back _ d.offset h)

  pub data-clean : (n : ℕ) (d : Data) → KnownData k d → data_faults all (data_field n d) ≡ []
  data-clean n d h = constant-clean _ d.offset h
