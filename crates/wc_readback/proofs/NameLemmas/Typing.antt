-- The types of a printed text are those of its type fields: each type use is by an index, and nothing is written
-- behind.
use Rattle.std.proofs.Common.{◌≡◌, ℕ, suc, ◌<◌, List, [], ◌∷◌, ◌++◌, length, map, refl, ap, ◌∙◌}
use Rattle.std.proofs.Common.{Option, Some}
use Rattle.std.proofs.lemmas.List.{length-map}
use Rattle.std.proofs.lemmas.Option.{slice_get-get_or}
use Rattle.std.specs.List.{AllByRecursion, flat_map, slice_get}
use Rattle.wc_body.specs.declared.instr.BlockType.{BlockType}
use Rattle.wc_body.specs.declared.instr.BlockType.TheVariants as block_types
use Rattle.wc_body.specs.declared.instr.Instr.{Instr}
use Rattle.wc_body.specs.declared.instr.Instr.TheVariants as instrs
use Rattle.wc_body.specs.Standard.Nested.{Code, empty, op, region, choice, plain, begin, begin_if, close}
use Rattle.wc_body.specs.Standard.Throughout.{Throughout}
use Rattle.wc_ast.specs.declared.func_type.FuncType.{FuncType}
use Rattle.wc_ast.specs.declared.import.Desc.{Desc}
use Rattle.wc_ast.specs.declared.import.Desc.TheVariants as descs
use Rattle.wc_ast.specs.declared.import.Import.{Import}
use Rattle.wc_ast.specs.declared.func.Func.{Func}
use Rattle.wc_ast.specs.declared.func.Global.{Global}
use Rattle.wc_ast.specs.declared.segment.Elem.{Elem}
use Rattle.wc_ast.specs.declared.segment.Data.{Data}
use Rattle.wc_ast.specs.declared.module.Module.{Module}
use Rattle.wc_resolve_code.specs.declared.why.NameWhy.{NameWhy}
use Rattle.wc_spaces.specs.declared.noted.Fault.{Fault}
use Rattle.wc_surface.specs.Standard.Keys.{func_type, key_of}
use Rattle.wc_surface.specs.declared.id.Index.{Index}
use Rattle.wc_surface.specs.declared.id.Index.TheVariants as index
use Rattle.wc_surface.specs.declared.type_use.TypeUse.{TypeUse}
use Rattle.wc_surface.specs.declared.type_use.User.{User}
use Rattle.wc_surface.specs.declared.type_use.ParamName.{ParamName}
use Rattle.wc_surface.specs.declared.field.Field.{Field}
use Rattle.wc_declare.specs.declared.kind.SpaceKind.TheVariants as kind
use Rattle.wc_declare.specs.Standard.Spaces.{space, texts}
use Rattle.wc_declare.specs.Standard.Types.{written_types, uses_of, all_uses, with_use, with_uses, types_of}
use Rattle.wc_declare.specs.Standard.Uses.{index_faults, param_faults, type_faults, use_faults}
use Rattle.wc_declare.specs.Standard.Stages.{all_use_faults}
use Rattle.wc_readback.specs.Grammar.FieldSigns.{type_signs, import_signs, func_signs, table_signs, memory_signs}
use Rattle.wc_readback.specs.Grammar.FieldSigns.{global_signs, export_signs, elem_signs, data_signs}
use Rattle.wc_readback.specs.Instructions.Bodies.{Spot, start, instr_uses, block_uses, behind, behind_else, behind_code}
use Rattle.wc_readback.specs.Instructions.Bodies.{text_body}
use Rattle.wc_readback.specs.Fields.Surface.{type_field, import_field, func_field, table_field, memory_field}
use Rattle.wc_readback.specs.Fields.Surface.{global_field, export_field, elem_field, data_field, along, behind as past}
use Rattle.wc_readback.specs.Fields.Surface.{text_fields}
use Rattle.wc_readback.specs.Names.Known.{Known, KnownInstr, KnownBlock, KnownCode, KnownDesc, KnownImport, KnownFunc}
use Rattle.wc_readback.specs.Names.Known.{KnownGlobal, KnownElem, KnownData}
use Rattle.wc_readback.proofs.NameLemmas.Along.{over, onward, onward-start}

-- a use by the index of one of so many types, with nothing written behind
pub record KnownUse (types : ℕ) (u : TypeUse) : Type 0 where
  pub token : ℕ
  pub number : ℕ
  pub below : number < types
  pub index_is : u.index ≡ Some (index.Number token number)
  pub signature_is : u.signature ≡ func_type [] []
  pub names_are : u.names ≡ []

abbrev pub KnownUses : ℕ → List TypeUse → Type 0
KnownUses types us = AllByRecursion (KnownUse types) us

pub all-append : {A : Type 0} (F : A → Type 0) (xs ys : List A) → AllByRecursion F xs → AllByRecursion F ys
    → AllByRecursion F (xs ++ ys)
all-append F [] ys h g = g
all-append F (x ∷ xs) ys h g = (h.0, all-append F xs ys h.1 g)

-- ---- the uses of instructions

instr-uses : (k token : ℕ) (i : Instr) → KnownInstr k i → KnownUses k (instr_uses token i)
instr-uses k token (instrs.Simple o) h = tt
instr-uses k token (instrs.Index o n) h = tt
instr-uses k token (instrs.Mem o arg) h = tt
instr-uses k token (instrs.BrTable default labels) h = tt
instr-uses k token (instrs.CallIndirect n) h = (
  record {
    token = suc (suc (suc token));
    number = n;
    below = h;
    index_is = refl;
    signature_is = refl;
    names_are = refl;
  },
  tt,
)
instr-uses k token (instrs.I32Const z) h = tt
instr-uses k token (instrs.I64Const z) h = tt

block-uses : (k token : ℕ) (t : BlockType) → KnownBlock k t → KnownUses k (block_uses token t)
block-uses k token block_types.Empty h = tt
block-uses k token (block_types.Value t) h = tt
block-uses k token (block_types.Index n) h = (
  record {
    token = suc (suc (suc token));
    number = n;
    below = h;
    index_is = refl;
    signature_is = refl;
    names_are = refl;
  },
  tt,
)

else-uses : (k : ℕ) (two : Code Instr BlockType) (s : Spot) → KnownUses k s.uses → KnownUses k (behind_else two s).uses
else-uses k empty s h = h
else-uses k (op i next) s h = h
else-uses k (region r t inside next) s h = h
else-uses k (choice t one two next) s h = h

code-uses : (k : ℕ) (x : Code Instr BlockType) (s : Spot) → Throughout (KnownInstr k) (KnownBlock k) x
    → KnownUses k s.uses → KnownUses k (behind_code s x).uses
code-uses k empty s h g = g
code-uses k (op i next) s h g =
    code-uses k next (behind s (plain i)) h.1
    (all-append (KnownUse k) s.uses (instr_uses s.token i) g (instr-uses k s.token i h.0))
code-uses k (region r t inside next) s h g =
    let within = behind s (begin r t) in
    code-uses k next (behind (behind_code within inside) close) h.2
    (code-uses k inside within h.1
    (all-append (KnownUse k) s.uses (block_uses s.token t) g (block-uses k s.token t h.0)))
code-uses k (choice t one two next) s h g =
    let within = behind s (begin_if t) in
    let turned = behind_else two (behind_code within one) in
    code-uses k next (behind (behind_code turned two) close) h.3
    (code-uses k two turned h.2
    (else-uses k two (behind_code within one)
    (code-uses k one within h.1
    (all-append (KnownUse k) s.uses (block_uses s.token t) g (block-uses k s.token t h.0)))))

pub body-uses : (k token : ℕ) (x : Code Instr BlockType) → KnownCode k x → KnownUses k (text_body token x).uses
body-uses k token x h = code-uses k x (start token) h.0 tt

-- ---- the uses of fields

abbrev Uses : ℕ → List Field → Type 0
Uses k fs = KnownUses k (all_uses fs)

import-uses : (k n : ℕ) (x : Import) (d : Desc) → KnownDesc k d
    → KnownUses k (uses_of (import_field n (record x { desc = d })))
import-uses k n x (descs.Func i) h = (
  record {
    token = suc (suc (suc (suc (suc (suc (suc (suc n)))))));
    number = i;
    below = h;
    index_is = refl;
    signature_is = refl;
    names_are = refl;
  },
  tt,
)
import-uses k n x (descs.Table l) h = tt
import-uses k n x (descs.Memory l) h = tt
import-uses k n x (descs.Global g) h = tt

module _ (k : ℕ) where
  imports-on : (n : ℕ) (x : Import) (fs : List Field) → KnownImport k x → Uses k fs → Uses k (import_field n x ∷ fs)
  imports-on n x fs h r =
      all-append (KnownUse k) (uses_of (import_field n x)) (all_uses fs) (import-uses k n x x.desc h) r

  funcs-on : (n : ℕ) (x : Func) (fs : List Field) → KnownFunc k x → Uses k fs → Uses k (func_field n x ∷ fs)
  funcs-on n x fs h r = all-append (KnownUse k) (uses_of (func_field n x)) (all_uses fs) (
    record {
      token = suc (suc (suc (suc n)));
      number = x.ty;
      below = h.0;
      index_is = refl;
      signature_is = refl;
      names_are = refl;
    },
    body-uses k _ x.body h.2,
  ) r

  globals-on : (n : ℕ) (x : Global) (fs : List Field) → KnownGlobal k x → Uses k fs → Uses k (global_field n x ∷ fs)
  globals-on n x fs h r =
      all-append (KnownUse k) (uses_of (global_field n x)) (all_uses fs) (body-uses k _ x.init h) r

  elems-on : (n : ℕ) (x : Elem) (fs : List Field) → KnownElem k x → Uses k fs → Uses k (elem_field n x ∷ fs)
  elems-on n x fs h r =
      all-append (KnownUse k) (uses_of (elem_field n x)) (all_uses fs) (body-uses k _ x.offset h) r

  datas-on : (n : ℕ) (x : Data) (fs : List Field) → KnownData k x → Uses k fs → Uses k (data_field n x ∷ fs)
  datas-on n x fs h r =
      all-append (KnownUse k) (uses_of (data_field n x)) (all_uses fs) (body-uses k _ x.offset h) r

pub known-uses : (m : Module) → Known m → KnownUses (length m.types) (all_uses (text_fields m))
known-uses m h =
    let k = length m.types in
    over type_field type_signs (Uses k) (λ n x fs r. r) m.types _ (
    onward import_field import_signs (KnownImport k) (Uses k) (imports-on k) m.imports h.imports _ (
    onward func_field func_signs (KnownFunc k) (Uses k) (funcs-on k) m.funcs h.funcs _ (
    over table_field table_signs (Uses k) (λ n x fs r. r) m.tables _ (
    over memory_field memory_signs (Uses k) (λ n x fs r. r) m.mems _ (
    onward global_field global_signs (KnownGlobal k) (Uses k) (globals-on k) m.globals h.globals _ (
    over export_field export_signs (Uses k) (λ n x fs r. r) m.exports _ (
    onward-start (Uses k) (λ n i fs r. r) m.start _ (
    onward elem_field elem_signs (KnownElem k) (Uses k) (elems-on k) m.elems h.elems _ (
    onward data_field data_signs (KnownData k) (Uses k) (datas-on k) m.datas h.datas _ (λ n. tt)))))))))) 2

-- ---- types

abbrev NoTypes : List Field → Type 0
NoTypes fs = written_types fs ≡ []

types-along : (ts : List FuncType) (rest : ℕ → List Field) → ((n : ℕ) → written_types (rest n) ≡ []) → (n : ℕ)
    → written_types (along type_field type_signs n ts rest) ≡ ts
types-along [] rest r n = r n
types-along (t ∷ ts) rest r n =
    ap (λ (x : List FuncType). t ∷ x) (types-along ts rest r (past (type_signs t) n))

written : (m : Module) → written_types (text_fields m) ≡ m.types
written m =
    types-along m.types _ (
    over import_field import_signs NoTypes (λ n x fs r. r) m.imports _ (
    over func_field func_signs NoTypes (λ n x fs r. r) m.funcs _ (
    over table_field table_signs NoTypes (λ n x fs r. r) m.tables _ (
    over memory_field memory_signs NoTypes (λ n x fs r. r) m.mems _ (
    over global_field global_signs NoTypes (λ n x fs r. r) m.globals _ (
    over export_field export_signs NoTypes (λ n x fs r. r) m.exports _ (
    onward-start NoTypes (λ n i fs r. r) m.start _ (
    over elem_field elem_signs NoTypes (λ n x fs r. r) m.elems _ (
    over data_field data_signs NoTypes (λ n x fs r. r) m.datas _ (λ n. refl)))))))))) 2

nothing-added : (k : ℕ) (ts : List FuncType) (us : List TypeUse) → KnownUses k us → with_uses ts us ≡ ts
nothing-added k ts [] h = refl
nothing-added k ts (u ∷ us) h =
    ap (λ (i : Option Index). with_uses (with_use ts i u.signature) us) h.0.index_is ∙ nothing-added k ts us h.1

pub same-types : (m : Module) → Known m → types_of (text_fields m) ≡ m.types
same-types m h =
    nothing-added (length m.types) (written_types (text_fields m)) (all_uses (text_fields m)) (known-uses m h)
    ∙ written m

-- ---- no faults

abbrev faults_of : List (Option (List ℕ)) → List (List ℕ) → User → Option Index → FuncType → List ParamName
    → List (Fault NameWhy)
faults_of ids ts u i f names = index_faults ids ts i (key_of f) ++ param_faults u names

type-clean : (token : ℕ) (o : Option (List ℕ)) (t : List ℕ) → o ≡ Some t → type_faults token o [] ++ [] ≡ []
type-clean token o t e = rw e refl

use-clean : (ids : List (Option (List ℕ))) (ts : List (List ℕ)) (u : TypeUse) → KnownUse (length ts) u
    → use_faults ids ts u ≡ []
use-clean ids ts u h =
    ap (λ (x : Option Index). faults_of ids ts u.user x u.signature u.names) h.index_is
    ∙ (ap (λ (x : FuncType). faults_of ids ts u.user (Some (index.Number h.token h.number)) x u.names) h.signature_is
    ∙ (ap (λ (x : List ParamName). faults_of ids ts u.user (Some (index.Number h.token h.number)) (func_type [] []) x)
    h.names_are
    ∙ type-clean h.token (slice_get ts h.number) _ (slice_get-get_or ts h.number [] h.below)))

uses-clean : (ids : List (Option (List ℕ))) (ts : List (List ℕ)) (us : List TypeUse) → KnownUses (length ts) us
    → flat_map (use_faults ids ts) us ≡ []
uses-clean ids ts [] h = refl
uses-clean ids ts (u ∷ us) h =
    ap (λ (x : List (Fault NameWhy)). x ++ flat_map (use_faults ids ts) us) (use-clean ids ts u h.0)
    ∙ uses-clean ids ts us h.1

by-types : (ids : List (Option (List ℕ))) (ts us : List FuncType) (uses : List TypeUse) → us ≡ ts
    → KnownUses (length ts) uses → flat_map (use_faults ids (map key_of us)) uses ≡ []
by-types ids ts us uses e h =
    rw e (uses-clean ids (map key_of ts) uses (rw length-map h))

pub no-use-faults : (m : Module) → Known m → all_use_faults (text_fields m) ≡ []
no-use-faults m h =
    by-types (texts (space kind.Type (text_fields m))) m.types (types_of (text_fields m)) (all_uses (text_fields m))
    (same-types m h) (known-uses m h)
