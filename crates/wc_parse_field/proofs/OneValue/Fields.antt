-- Fields have one value each, which their words and the roles of their tokens tell, and so has a list of them.
use Rattle.std.proofs.Common.{◌≡◌, ℕ, List, [], ◌∷◌, ◌++◌, Option, Some, refl, sym, subst, ◌∙◌}
use Rattle.wc_ast.specs.declared.export.ExportKind.{ExportKind}
use Rattle.wc_syntax.specs.declared.kind.Kind.{Kind}
use Rattle.wc_syntax.specs.declared.kind.Kind.TheVariants as kind
use Rattle.wc_syntax.specs.declared.role.Role.{Role}
use Rattle.wc_syntax.specs.declared.role.Role.TheVariants as role
use Rattle.wc_surface.specs.Standard.Identifiers.{Identifier}
use Rattle.wc_surface.specs.Standard.Written.Indices.{Index}
use Rattle.wc_surface.specs.Standard.Written.TypeUses.{Signature}
use Rattle.wc_surface.specs.Standard.Written.Instructions.{Instrs}
use Rattle.wc_surface.specs.Standard.Written.Fields.{Import, Desc, Function, Table, Memory, Global, Declared}
use Rattle.wc_surface.specs.Standard.Written.Fields.{Field, type_field, import_field, func_field, table_field}
use Rattle.wc_surface.specs.Standard.Written.Fields.{memory_field, global_field, export_field, start_field, elem_field}
use Rattle.wc_surface.specs.Standard.Written.Fields.{data_field}
use Rattle.wc_parse_code.specs.Standard.Tokens.{KeptToken}
use Rattle.wc_parse_code.specs.Standard.Productions.Tokens.{Said, ◌⊳◌, IsId, IsIndex}
use Rattle.wc_parse_code.specs.Standard.Productions.TypeUses.{IsSignature}
use Rattle.wc_parse_code.proofs.OneValue.Reading.{AllRoles, roles-append}
use Rattle.wc_parse_code.proofs.OneValue.Parts.{same-index}
use Rattle.wc_parse_code.proofs.OneValue.Same.{same-id}
use Rattle.wc_parse_field.specs.Standard.Productions.Parts.{IsName, AreStrings, AreElements, IsDeclared, IsImport}
use Rattle.wc_parse_field.specs.Standard.Productions.Parts.{IsKind, IsOffset, IsTarget}
use Rattle.wc_parse_field.specs.Standard.Productions.Fields.{IsDesc, IsFunction, IsTable, IsMemory, IsGlobal, IsField}
use Rattle.wc_parse_field.specs.Standard.Productions.Fields.{AreFields}
use Rattle.wc_parse_field.proofs.OneValue.Cutting.{AllBefore, Starts, Cut, cut, cut-front, cut-rest}
use Rattle.wc_parse_field.proofs.OneValue.Cutting.{at-before, at-starts}
use Rattle.wc_parse_field.proofs.OneValue.Places.{id-at, import-at, target-at, signature-at, elements-at, strings-at}
use Rattle.wc_parse_field.proofs.OneValue.Places.{declared-before, code-before, code-starts, later, offset-part}
use Rattle.wc_parse_field.proofs.OneValue.Parts.{same-name, same-strings, same-import, same-declared, same-signature}
use Rattle.wc_parse_field.proofs.OneValue.Parts.{same-kind, same-target, same-elements, same-offset}
use Rattle.wc_parse_field.proofs.OneValue.Given.{same-function, function-before, function-starts, same-table}
use Rattle.wc_parse_field.proofs.OneValue.Given.{table-before, table-starts, same-memory, memory-before, memory-starts}
use Rattle.wc_parse_field.proofs.OneValue.Given.{same-global-field, global-field-before, global-field-starts}
use Rattle.wc_parse_field.proofs.OneValue.Descs.{same-desc, desc-before, desc-starts}

-- ---- one field

-- name "(" kind index ")"
data IsLent : List Said → List ℕ → ExportKind → Index → Type 0 where
  parts : {n k v : KeptToken} {name : List ℕ} {e : ExportKind} {x : Index} → IsName n name → IsKind k e → IsIndex v x
      → IsLent (role.ExportName ⊳ n ∷ role.Description ⊳ k ∷ role.Target ⊳ v ∷ []) name e x

same-lent : {us : List Said} {n m : List ℕ} {k l : ExportKind} {x y : Index} → IsLent us n k x → IsLent us m l y
    → export_field n k x ≡ export_field m l y
same-lent (IsLent.parts n k i) (IsLent.parts m l j) = cc (same-name n m, same-kind k l, same-index i j)

-- what the tokens behind its word are
abbrev SaysField : Kind → KeptToken → List Said → Field → Type 0
SaysField kind.TypeWord w us f = (i : Option Identifier) × (s : Signature)
    × Cut 1 (λ us. IsId role.FieldId us i) (λ us. IsSignature us s) us × (f ≡ type_field i s)
SaysField kind.ImportWord w us f = (m : Import) × (i : Option Identifier) × (d : Desc)
    × Cut 3 (λ us. IsImport w us m) (λ us. IsDesc us i d) us × (f ≡ import_field m i d)
SaysField kind.FuncWord w us f = (d : Declared) × (x : Function)
    × Cut 2 (λ us. IsDeclared us d) (λ us. IsFunction us x) us × (f ≡ func_field w.token d x)
SaysField kind.TableWord w us f = (d : Declared) × (x : Table)
    × Cut 2 (λ us. IsDeclared us d) (λ us. IsTable us x) us × (f ≡ table_field d x)
SaysField kind.MemoryWord w us f = (d : Declared) × (x : Memory)
    × Cut 2 (λ us. IsDeclared us d) (λ us. IsMemory us x) us × (f ≡ memory_field d x)
SaysField kind.GlobalWord w us f = (d : Declared) × (x : Global)
    × Cut 2 (λ us. IsDeclared us d) (λ us. IsGlobal us x) us × (f ≡ global_field d x)
SaysField kind.ExportWord w us f =
    (name : List ℕ) × (e : ExportKind) × (x : Index) × IsLent us name e x × (f ≡ export_field name e x)
SaysField kind.StartWord w us f = (x : Index) × IsTarget us (Some x) × (f ≡ start_field w.token x)
SaysField kind.ElemWord w us f = (t : Option Index) × (c : Instrs) × (xs : List Index)
    × Cut 8 (Cut 3 (λ us. IsTarget us t) (λ us. IsOffset us c)) (λ us. AreElements us xs) us × (f ≡ elem_field t c xs)
SaysField kind.DataWord w us f = (t : Option Index) × (c : Instrs) × (bytes : List ℕ)
    × Cut 8 (Cut 3 (λ us. IsTarget us t) (λ us. IsOffset us c)) (λ us. AreStrings us bytes) us
    × (f ≡ data_field t c bytes)
SaysField _ w us f = ⊥

offset-before : {us : List Said} {c : Instrs} → IsOffset us c → AllBefore 8 us
offset-before h = code-before (offset-part h).1

offset-starts : {us : List Said} {c : Instrs} → IsOffset us c → Starts 3 us
offset-starts h = code-starts refl (offset-part h).1

-- the table or the memory of a segment, and its offset
segment-cut : {us vs : List Said} {t : Option Index} {c : Instrs} → IsTarget us t → IsOffset vs c
    → Cut 3 (λ us. IsTarget us t) (λ us. IsOffset us c) (us ++ vs)
segment-cut t c = cut (at-before 3 refl (target-at t)) (offset-starts c) t c

segment-before : {us vs : List Said} {t : Option Index} {c : Instrs} → IsTarget us t → IsOffset vs c
    → AllBefore 8 (us ++ vs)
segment-before t c = roles-append (at-before 8 refl (target-at t)) (offset-before c)

-- by its word
record ByWord (w : KeptToken) (us : List Said) (f : Field) : Type 0 where
  kind : Kind
  is : w.symbol.kind ≡ kind
  says : SaysField kind w us f

by-word : {w : KeptToken} {us : List Said} {f : Field} → IsField w us f → ByWord w us f
by-word (IsField.type_word e i s) = record {
  kind = kind.TypeWord;
  is = e;
  says = (_, _, cut (at-before 1 refl (id-at refl i)) (at-starts refl (signature-at s)) i s, refl);
}
by-word (IsField.import_word e m d) = record {
  kind = kind.ImportWord;
  is = e;
  says = (_, _, _, cut (at-before 3 refl (import-at m)) (desc-starts d) m d, refl);
}
by-word (IsField.func_word e d x) = record {
  kind = kind.FuncWord;
  is = e;
  says = (_, _, cut (declared-before 2 refl refl d) (function-starts x) d x, refl);
}
by-word (IsField.table_word e d x) = record {
  kind = kind.TableWord;
  is = e;
  says = (_, _, cut (declared-before 2 refl refl d) (table-starts x) d x, refl);
}
by-word (IsField.memory_word e d x) = record {
  kind = kind.MemoryWord;
  is = e;
  says = (_, _, cut (declared-before 2 refl refl d) (memory-starts x) d x, refl);
}
by-word (IsField.global_word e d x) = record {
  kind = kind.GlobalWord;
  is = e;
  says = (_, _, cut (declared-before 2 refl refl d) (global-field-starts x) d x, refl);
}
by-word (IsField.export_word e n k i) = record {
  kind = kind.ExportWord;
  is = e;
  says = (_, _, _, IsLent.parts n k i, refl);
}
by-word (IsField.start_word e i) = record { kind = kind.StartWord; is = e; says = (_, IsTarget.there i, refl) }
by-word (IsField.elem_word e t c xs) = record {
  kind = kind.ElemWord;
  is = e;
  says = (_, _, _, cut (segment-before t c) (at-starts refl (elements-at xs)) (segment-cut t c) xs, refl);
}
by-word (IsField.data_word e t c s) = record {
  kind = kind.DataWord;
  is = e;
  says = (_, _, _, cut (segment-before t c) (at-starts refl (strings-at s)) (segment-cut t c) s, refl);
}

same-says-field : (k : Kind) (w : KeptToken) (us : List Said) {f g : Field} → SaysField k w us f
    → SaysField k w us g → f ≡ g
same-says-field kind.TypeWord w us a b =
    cc (a.3, b.3, same-id a.2.first b.2.first, same-signature a.2.second b.2.second)
same-says-field kind.ImportWord w us a b =
    let d = same-desc a.3.second b.3.second in cc (a.4, b.4, same-import a.3.first b.3.first, d.id, d.desc)
same-says-field kind.FuncWord w us a b =
    cc (a.3, b.3, same-declared a.2.first b.2.first, same-function a.2.second b.2.second)
same-says-field kind.TableWord w us a b =
    cc (a.3, b.3, same-declared a.2.first b.2.first, same-table a.2.second b.2.second)
same-says-field kind.MemoryWord w us a b =
    cc (a.3, b.3, same-declared a.2.first b.2.first, same-memory a.2.second b.2.second)
same-says-field kind.GlobalWord w us a b =
    cc (a.3, b.3, same-declared a.2.first b.2.first, same-global-field a.2.second b.2.second)
same-says-field kind.ExportWord w us a b = cc (a.4, b.4, same-lent a.3 b.3)
same-says-field kind.StartWord w us a b = cc (a.2, b.2, same-target a.1 b.1)
same-says-field kind.ElemWord w us a b =
    cc (
      a.4,
      b.4,
      same-target a.3.first.first b.3.first.first,
      same-offset a.3.first.second b.3.first.second,
      same-elements a.3.second b.3.second,
    )
same-says-field kind.DataWord w us a b =
    cc (
      a.4,
      b.4,
      same-target a.3.first.first b.3.first.first,
      same-offset a.3.first.second b.3.first.second,
      same-strings a.3.second b.3.second,
    )
same-says-field _ w us a b = absurd a

same-field : {w : KeptToken} {us : List Said} {f g : Field} → IsField w us f → IsField w us g → f ≡ g
same-field {w = w} {us = us} {g = g} a b =
    let x = by-word a in
    let y = by-word b in
    same-says-field x.kind w us x.says (subst (λ (k : Kind). SaysField k w us g) (sym y.is ∙ x.is) y.says)

-- ---- fields in order

-- the tokens of a field come before its end
pub field-before : {w : KeptToken} {us : List Said} {f : Field} → IsField w us f → AllBefore 9 us
field-before (IsField.type_word e i s) =
    roles-append (at-before 9 refl (id-at refl i)) (at-before 9 refl (signature-at s))
field-before (IsField.import_word e m d) = roles-append (at-before 9 refl (import-at m)) (desc-before d)
field-before (IsField.func_word e d x) = roles-append (declared-before 9 refl refl d) (function-before x)
field-before (IsField.table_word e d x) = roles-append (declared-before 9 refl refl d) (table-before x)
field-before (IsField.memory_word e d x) = roles-append (declared-before 9 refl refl d) (memory-before x)
field-before (IsField.global_word e d x) = roles-append (declared-before 9 refl refl d) (global-field-before x)
field-before (IsField.export_word e n k i) =
    AllRoles.more refl (AllRoles.more refl (AllRoles.more refl AllRoles.none))
field-before (IsField.start_word e i) = AllRoles.more refl AllRoles.none
field-before (IsField.elem_word e t c xs) =
    roles-append (later (segment-before t c)) (at-before 9 refl (elements-at xs))
field-before (IsField.data_word e t c s) =
    roles-append (later (segment-before t c)) (at-before 9 refl (strings-at s))

-- the end of a field, and these fields
data Ended (fs : List Field) : List Said → Type 0 where
  end : {z : KeptToken} {vs : List Said} → AreFields vs fs → Ended fs (role.FieldEnd ⊳ z ∷ vs)

behind-end : {r : Role} {z : KeptToken} {vs : List Said} {fs : List Field} → Ended fs (r ⊳ z ∷ vs) → AreFields vs fs
behind-end (Ended.end h) = h

-- what the tokens of fields are: of none, or of the first one, up to its end, and of the others
abbrev SaysList : List Said → List Field → Type 0
SaysList [] fs = [] ≡ fs
SaysList (r ⊳ w ∷ us) fs =
    (f : Field) × (gs : List Field) × Cut 9 (λ us. IsField w us f) (λ us. Ended gs us) us × (fs ≡ f ∷ gs)

says-list : {us : List Said} {fs : List Field} → AreFields us fs → SaysList us fs
says-list AreFields.none = refl
says-list (AreFields.more z f others) = (_, _, cut (field-before f) (Starts.at refl) f (Ended.end others), refl)

-- the same kept tokens say the same fields
pub one_list : {us : List Said} {fs gs : List Field} → AreFields us fs → AreFields us gs → fs ≡ gs
one_list AreFields.none b = says-list b
one_list (AreFields.more z {w = w} {us = us} {vs = vs} a after) b =
    let y = says-list b in
    let all = field-before a in
    let here : Starts 9 (role.FieldEnd ⊳ z ∷ vs) = Starts.at refl in
    let first = subst (λ (us : List Said). IsField w us y.0) (cut-front all here) y.2.first in
    let others = subst (λ (us : List Said). Ended y.1 us) (cut-rest all here) y.2.second in
    cc (y.3, same-field a first, one_list after (behind-end others))
