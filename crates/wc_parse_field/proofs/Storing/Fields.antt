-- What a field says is what is stored of it, by each production.
use Rattle.std.proofs.Common.{◌≡◌, ℕ, suc, ◌≤◌, ◌^◌, List, [], ◌∷◌, ◌++◌, Option, None, true, false, refl}
use Rattle.std.proofs.Common.{ap, ◌∙◌, arith}
use Rattle.std.specs.Prelude.{map, option_map}
use Rattle.wc_body.specs.Standard.Nested.{nesting_limit, nesting}
use Rattle.wc_ast.specs.declared.limits.GlobalType.{GlobalType}
use Rattle.wc_ast.specs.declared.export.ExportKind.{ExportKind}
use Rattle.wc_syntax.specs.declared.kind.Kind.TheVariants as kind
use Rattle.wc_syntax.specs.declared.kind.Kind.TheVariants.{OtherWord}
use Rattle.wc_syntax.specs.declared.role.Role.TheVariants as role
use Rattle.wc_surface.specs.declared.type_use.User.TheVariants as user
use Rattle.wc_surface.specs.declared.type_use.TypeUse.{TypeUse as StoredUse}
use Rattle.wc_surface.specs.declared.head.TextBody.{TextBody}
use Rattle.wc_surface.specs.declared.id.Index.{Index as StoredIndex}
use Rattle.wc_surface.specs.declared.local.Local.{Local as StoredLocal}
use Rattle.wc_surface.specs.declared.field.Field.TheVariants as stored
use Rattle.wc_surface.specs.declared.field.ImportNames.{ImportNames}
use Rattle.wc_surface.specs.declared.field.ImportDesc.TheVariants as desc
use Rattle.wc_surface.specs.declared.field.FuncDesc.{FuncDesc}
use Rattle.wc_surface.specs.declared.field.FuncDesc.TheVariants as func
use Rattle.wc_surface.specs.declared.field.GlobalDesc.TheVariants as global
use Rattle.wc_surface.specs.Standard.Identifiers.{Identifier}
use Rattle.wc_surface.specs.Standard.Written.Indices.{Index}
use Rattle.wc_surface.specs.Standard.Written.TypeUses.{TypeUse}
use Rattle.wc_surface.specs.Standard.Written.Instructions.{Instrs}
use Rattle.wc_surface.specs.Standard.Written.Fields.{Import, Desc, Function, Table, Memory, Global, Declared}
use Rattle.wc_surface.specs.Standard.Written.Fields.{Field, import_field, func_field, table_field, memory_field}
use Rattle.wc_surface.specs.Standard.Written.Fields.{global_field, export_field}
use Rattle.wc_parse_code.specs.Standard.Tokens.{KeptToken}
use Rattle.wc_parse_code.specs.Standard.Productions.Tokens.{Said, ◌⊳◌, IsIndex}
use Rattle.wc_parse_code.specs.Standard.Productions.Kept.{IsSpoken}
use Rattle.wc_parse_code.specs.Standard.Productions.TypeUses.{IsTypeUse, inline}
use Rattle.wc_parse_code.specs.Standard.Productions.Instructions.{Part, Says}
use Rattle.wc_parse_code.specs.Drafting.Uses.{started_use, use_of}
use Rattle.wc_parse_code.specs.Drafting.Ending.{nothing_said, ended}
use Rattle.wc_parse_code.specs.Drafting.Following.{take_said, take_uses}
use Rattle.wc_parse_code.specs.Stored.TypeUses.{index_as, use_as}
use Rattle.wc_parse_code.specs.Stored.Bodies.{body_as}
use Rattle.wc_parse_code.proofs.Storing.Ordered.Following.{Follow, follow-range, Parted, part}
use Rattle.wc_parse_code.proofs.Storing.Uses.{use-stored}
use Rattle.wc_parse_code.proofs.Storing.Whole.{body-stored}
use Rattle.wc_parse_code.proofs.Storing.Ordered.Derived.{follow-from}
use Rattle.wc_parse_field.specs.declared.field_draft.FieldDraft.{FieldDraft}
use Rattle.wc_parse_field.specs.Drafting.Fields.{started, begun}
use Rattle.wc_parse_field.specs.Drafting.Finished.{finished}
use Rattle.wc_parse_field.specs.Drafting.Following.{Takes}
use Rattle.wc_parse_field.specs.Standard.Productions.Parts.{IsName, IsDeclared, IsImport, IsKind}
use Rattle.wc_parse_field.specs.Standard.Productions.Fields.{IsDesc, IsFunction, IsTable, IsMemory, IsGlobal, IsField}
use Rattle.wc_parse_field.specs.Stored.Fields.{import_as, local_as, field_as}
use Rattle.wc_parse_field.proofs.OneValue.Places.{offset-part}
use Rattle.wc_parse_field.proofs.SomeValue.Parts.{function_nesting, global_nesting, field_nesting}
use Rattle.wc_parse_field.proofs.Storing.Taking.{one-word, last, finishes, begins}
use Rattle.wc_parse_field.proofs.Storing.Code.{use-taken, code-taken}
use Rattle.wc_parse_field.proofs.Storing.Parts.{in-two, id-taken, declared-taken, import-taken, inline-taken}
use Rattle.wc_parse_field.proofs.Storing.Parts.{item-taken, kind-taken, locals-taken, limits-taken, global-taken}
use Rattle.wc_parse_field.proofs.Storing.Parts.{index-taken}
use Rattle.wc_parse_field.proofs.Storing.Parts.{target-taken, elements-taken, strings-taken}

-- ---- type uses and instructions

use-is : (lo hi : ℕ) {us : List Said} {u : TypeUse} (token : ℕ) → IsTypeUse us u → Follow lo us hi → hi ≤ 2 ^ 32
    → use_of (take_uses (started_use user.Func token) us) ≡ use_as user.Func token u
use-is lo hi token h f small = use-stored lo hi h f small user.Func token

body-is : (lo hi : ℕ) {p : Part} {us : List Said} {c : Instrs} → Says p us c → Follow lo us hi → hi ≤ 2 ^ 32
    → nesting c ≤ nesting_limit → ended (take_said nothing_said us) ≡ body_as c
body-is lo hi {p = p} {us = us} {c = c} s f small deep =
    body-stored hi p us c s (follow-from 0 lo hi us (omega arith) f) small deep

-- the first part ends no later
inner : (hi : ℕ) {lo : ℕ} {us vs : List Said} (p : Parted lo hi us vs) → hi ≤ 2 ^ 32 → p.mid ≤ 2 ^ 32
inner hi {vs = vs} p e = omega (arith, e, follow-range p.mid hi vs p.last)

-- the field is stored of these tokens behind its word
abbrev pub IsStored : KeptToken → List Said → Field → Type 0
IsStored w us f =
    (e : FieldDraft) → Takes (begun w.symbol.kind w.token (started OtherWord 0)) us e → finished e ≡ field_as f

-- ---- fields of one use or one body

import-by : (m : ImportNames) (i : Option Identifier) {u v : StoredUse} → u ≡ v
    → stored.Import (record { names = m; id = i; desc = desc.Func u })
    ≡ stored.Import (record { names = m; id = i; desc = desc.Func v })
import-by m i e = rw e

func-by : (d : Declared) (f : FuncDesc) {u v : StoredUse} → u ≡ v
    → stored.Func (record { id = d.id; exports = d.exports; ty = u; desc = f })
    ≡ stored.Func (record { id = d.id; exports = d.exports; ty = v; desc = f })
func-by d f e = rw e

code-by : (d : Declared) (ls : List StoredLocal) {u v : StoredUse} {b c : TextBody} → u ≡ v → b ≡ c
    → stored.Func (record { id = d.id; exports = d.exports; ty = u; desc = func.Code ls b })
    ≡ stored.Func (record { id = d.id; exports = d.exports; ty = v; desc = func.Code ls c })
code-by d ls e f = rw (e, f)

global-by : (d : Declared) (g : GlobalType) {b c : TextBody} → b ≡ c
    → stored.Global (record { id = d.id; exports = d.exports; ty = g; desc = global.Init b })
    ≡ stored.Global (record { id = d.id; exports = d.exports; ty = g; desc = global.Init c })
global-by d g e = rw e

elem-by : (t : Option StoredIndex) (xs : List StoredIndex) {b c : TextBody} → b ≡ c
    → stored.Elem (record { table = t; offset = b; funcs = xs })
    ≡ stored.Elem (record { table = t; offset = c; funcs = xs })
elem-by t xs e = rw e

data-by : (m : Option StoredIndex) (bytes : List ℕ) {b c : TextBody} → b ≡ c
    → stored.Data (record { memory = m; offset = b; bytes = bytes })
    ≡ stored.Data (record { memory = m; offset = c; bytes = bytes })
data-by m bytes e = rw e

-- ---- by each production

import-stored : (lo hi : ℕ) (w : KeptToken) {us vs : List Said} {m : Import} {i : Option Identifier} {d : Desc}
    → w.symbol.kind ≡ kind.ImportWord → IsImport w us m → IsDesc vs i d → Follow lo vs hi → hi ≤ 2 ^ 32
    → IsStored w (us ++ vs) (import_field m i d)
import-stored lo hi w k (IsImport.names a n) (IsDesc.func {us = us} {vs = vs} {i = i} f j h) g small e t =
    let p = part (suc _) hi us vs g.3 in
    finishes (use-taken h (last (id-taken j (kind-taken f (import-taken {w = w} (IsImport.names a n) (begins w k t))))))
    ∙ import-by (import_as (record { token = w.token; «module» = _; item = _ })) i
    (use-is p.mid hi w.token h p.last small)
import-stored lo hi w k (IsImport.names a n) (IsDesc.table {us = us} {vs = vs} f j h) g small e t =
    let p = part (suc _) hi us vs g.3 in
    finishes (limits-taken p.mid hi h p.last
    (last (id-taken j (kind-taken f (import-taken {w = w} (IsImport.names a n) (begins w k t))))))
import-stored lo hi w k (IsImport.names a n) (IsDesc.memory {us = us} {vs = vs} f j h) g small e t =
    let p = part (suc _) hi us vs g.3 in
    finishes (limits-taken p.mid hi h p.last
    (last (id-taken j (kind-taken f (import-taken {w = w} (IsImport.names a n) (begins w k t))))))
import-stored lo hi w k (IsImport.names a n) (IsDesc.global f j h) g small e t =
    finishes (global-taken h
    (last (id-taken j (kind-taken f (import-taken {w = w} (IsImport.names a n) (begins w k t))))))

func-stored : (lo hi : ℕ) (w : KeptToken) {us vs : List Said} {d : Declared} {f : Function}
    → w.symbol.kind ≡ kind.FuncWord → IsDeclared us d → IsFunction vs f → Follow lo vs hi → hi ≤ 2 ^ 32
    → function_nesting f ≤ nesting_limit → IsStored w (us ++ vs) (func_field w.token d f)
func-stored lo hi w {d = d} k a (IsFunction.imported {us = us} {vs = vs} {m = m} i h) f small deep e t =
    let p = part lo hi us vs f in
    finishes (use-taken h (last (inline-taken i (declared-taken (λ name n. refl) a (begins w k t)))))
    ∙ func-by d (func.Import (import_as m)) (use-is p.mid hi w.token h p.last small)
func-stored lo hi w {d = d} k a (IsFunction.code {us = us} {vs = vs} {ws = ws} {ls = ls} h l c) f small deep e t =
    let p = part lo hi (us ++ vs) ws f in
    let q = part lo p.mid us vs p.first in
    let locals = locals-taken [] l (use-taken h (in-two us vs ws (declared-taken (λ name n. refl) a (begins w k t)))) in
    finishes (code-taken c (last locals)).1
    ∙ code-by d (map local_as ls) (use-is lo q.mid w.token h q.first (inner p.mid q (inner hi p small)))
    (body-is p.mid hi c p.last small deep)

table-stored : (lo hi : ℕ) (w : KeptToken) {us vs : List Said} {d : Declared} {y : Table}
    → w.symbol.kind ≡ kind.TableWord → IsDeclared us d → IsTable vs y → Follow lo vs hi
    → IsStored w (us ++ vs) (table_field d y)
table-stored lo hi w k a (IsTable.imported {us = us} {vs = vs} i l) f e t =
    let p = part lo hi us vs f in
    finishes (limits-taken p.mid hi l p.last
    (last (inline-taken i (declared-taken (λ name n. refl) a (begins w k t)))))
table-stored lo hi w k a (IsTable.limits l) f e t =
    finishes (limits-taken lo hi l f (last (declared-taken (λ name n. refl) a (begins w k t))))
table-stored lo hi w k a (IsTable.elements x) f e t =
    finishes (elements-taken _ hi true None [] [] x f.3
    (last (one-word refl (declared-taken (λ name n. refl) a (begins w k t)))))

memory-stored : (lo hi : ℕ) (w : KeptToken) {us vs : List Said} {d : Declared} {y : Memory}
    → w.symbol.kind ≡ kind.MemoryWord → IsDeclared us d → IsMemory vs y → Follow lo vs hi
    → IsStored w (us ++ vs) (memory_field d y)
memory-stored lo hi w k a (IsMemory.imported {us = us} {vs = vs} i l) f e t =
    let p = part lo hi us vs f in
    finishes (limits-taken p.mid hi l p.last
    (last (inline-taken i (declared-taken (λ name n. refl) a (begins w k t)))))
memory-stored lo hi w k a (IsMemory.limits l) f e t =
    finishes (limits-taken lo hi l f (last (declared-taken (λ name n. refl) a (begins w k t))))
memory-stored lo hi w k a (IsMemory.bytes s) f e t =
    finishes (strings-taken true None [] [] s
    (last (one-word refl (declared-taken (λ name n. refl) a (begins w k t)))))

global-stored : (lo hi : ℕ) (w : KeptToken) {us vs : List Said} {d : Declared} {y : Global}
    → w.symbol.kind ≡ kind.GlobalWord → IsDeclared us d → IsGlobal vs y → Follow lo vs hi → hi ≤ 2 ^ 32
    → global_nesting y ≤ nesting_limit → IsStored w (us ++ vs) (global_field d y)
global-stored lo hi w k a (IsGlobal.imported i g) f small deep e t =
    finishes (global-taken g (last (inline-taken i (declared-taken (λ name n. refl) a (begins w k t)))))
global-stored lo hi w {d = d} k a (IsGlobal.init {us = us} {vs = vs} {g = y} g c) f small deep e t =
    let p = part lo hi us vs f in
    finishes (code-taken c (last (global-taken g (declared-taken (λ name n. refl) a (begins w k t))))).1
    ∙ global-by d y (body-is p.mid hi c p.last small deep)

-- what an export lends (6.6.9)
export-stored : (w : KeptToken) {n k v : KeptToken} {name : List ℕ} {x : ExportKind} {i : Index}
    → w.symbol.kind ≡ kind.ExportWord → IsName n name → IsKind k x → IsIndex v i → IsSpoken v
    → IsStored w (role.ExportName ⊳ n ∷ role.Description ⊳ k ∷ role.Target ⊳ v ∷ []) (export_field name x i)
export-stored w k n (IsKind.func f) i s e t =
    finishes (index-taken i s (kind-taken f (item-taken (λ name n. refl) n (begins w k t))))
export-stored w k n (IsKind.table f) i s e t =
    finishes (index-taken i s (kind-taken f (item-taken (λ name n. refl) n (begins w k t))))
export-stored w k n (IsKind.memory f) i s e t =
    finishes (index-taken i s (kind-taken f (item-taken (λ name n. refl) n (begins w k t))))
export-stored w k n (IsKind.global f) i s e t =
    finishes (index-taken i s (kind-taken f (item-taken (λ name n. refl) n (begins w k t))))

pub field-stored : (lo hi : ℕ) {w : KeptToken} {us : List Said} {f : Field} → IsField w us f → Follow lo us hi
    → hi ≤ 2 ^ 32 → field_nesting f ≤ nesting_limit → IsStored w us f
field-stored lo hi {w = w} (IsField.type_word {us = us} {vs = vs} {i = i} k a h) f small deep e t =
    let p = part lo hi us vs f in
    finishes (use-taken (inline h) (last (id-taken a (begins w k t))))
    ∙ ap (λ (u : StoredUse). stored.FuncType (record { id = i; signature = u.signature; names = u.names }))
    (use-is p.mid hi w.token (inline h) p.last small)
field-stored lo hi {w = w} (IsField.import_word {us = us} {vs = vs} k m d) f small deep e t =
    let p = part lo hi us vs f in import-stored p.mid hi w k m d p.last small e t
field-stored lo hi {w = w} (IsField.func_word {us = us} {vs = vs} k a h) f small deep e t =
    let p = part lo hi us vs f in func-stored p.mid hi w k a h p.last small deep e t
field-stored lo hi {w = w} (IsField.table_word {us = us} {vs = vs} k a h) f small deep e t =
    let p = part lo hi us vs f in table-stored p.mid hi w k a h p.last e t
field-stored lo hi {w = w} (IsField.memory_word {us = us} {vs = vs} k a h) f small deep e t =
    let p = part lo hi us vs f in memory-stored p.mid hi w k a h p.last e t
field-stored lo hi {w = w} (IsField.global_word {us = us} {vs = vs} k a h) f small deep e t =
    let p = part lo hi us vs f in global-stored p.mid hi w k a h p.last small deep e t
field-stored lo hi {w = w} (IsField.export_word k n x i) f small deep e t = export-stored w k n x i f.3.3.0 e t
field-stored lo hi {w = w} (IsField.start_word k i) f small deep e t = finishes (index-taken i f.0 (begins w k t))
field-stored lo hi {w = w} (IsField.elem_word {us = us} {vs = vs} {ws = ws} {t = y}
    {xs = xs} k a o x) f small deep e t =
    let p = part lo hi (us ++ vs) ws f in
    let q = part lo p.mid us vs p.first in
    let c = (offset-part o).1 in
    let offset = code-taken c (target-taken lo q.mid a q.first (in-two us vs ws (begins w k t))) in
    finishes (elements-taken p.mid hi false (option_map index_as y) [] [] x p.last (last offset.1))
    ∙ elem-by (option_map index_as y) (map index_as xs) (body-is q.mid p.mid c q.last (inner hi p small) deep)
field-stored lo hi {w = w} (IsField.data_word {us = us} {vs = vs} {ws = ws} {m = y}
    {bytes = bytes} k a o s) f small deep e t =
    let p = part lo hi (us ++ vs) ws f in
    let q = part lo p.mid us vs p.first in
    let c = (offset-part o).1 in
    let offset = code-taken c (target-taken lo q.mid a q.first (in-two us vs ws (begins w k t))) in
    finishes (strings-taken false (option_map index_as y) [] [] s (last offset.1))
    ∙ data-by (option_map index_as y) bytes (body-is q.mid p.mid c q.last (inner hi p small) deep)
