-- The canonical bytes of names, imports and exports.
use Rattle.std.proofs.Common.{◌≡◌, ℕ, zero, suc, Bool, true, false, nat_eq, List, [], ◌∷◌, ◌++◌, length, Option, None}
use Rattle.std.proofs.Common.{Result, Ok, refl, sym, ap, subst}
use Rattle.std.specs.List.{AllByRecursion}
use Rattle.std.specs.Str.{IsUtf8, is_utf8}
use Rattle.std.proofs.lemmas.Str.{IsUtf8-from_is_utf8, is_utf8-from_IsUtf8}
use Rattle.std.proofs.lemmas.List.{append-nil}
use Rattle.std.proofs.lemmas.Bool.{eqb-true}
use Rattle.wc_leb128.specs.Writing.Bytes.{unsigned_bytes}
use Rattle.wc_ast.specs.declared.limits.Limits.{Limits}
use Rattle.wc_ast.specs.declared.limits.GlobalType.{GlobalType}
use Rattle.wc_ast.specs.declared.export.ExportKind.{ExportKind}
use Rattle.wc_ast.specs.declared.export.ExportKind.TheVariants as kinds
use Rattle.wc_ast.specs.declared.export.Export.{Export}
use Rattle.wc_ast.specs.declared.import.Desc.{Desc}
use Rattle.wc_ast.specs.declared.import.Desc.TheVariants as descs
use Rattle.wc_ast.specs.declared.import.Import.{Import}
use Rattle.wc_binary.specs.declared.fault.BinWhy.{BinWhy}
use Rattle.wc_binary.specs.Standard.Style.{Style, canonical}
use Rattle.wc_binary.specs.Standard.Phrase.{gives, ◌>>=◌, SpellsBy}
use Rattle.wc_binary.specs.Standard.Values.{IsByte, u32, times, any_byte, name, utf8_fault}
use Rattle.wc_binary.specs.Standard.Types.{limits, table_type, global_type}
use Rattle.wc_binary.specs.Standard.Externals.{kind, kind_of, desc, desc_of, import, export}
use Rattle.wc_binary.specs.Writing.Values.{limits_bytes, table_type_bytes, global_type_bytes, name_bytes, kind_bytes}
use Rattle.wc_body.specs.Standard.ValueBytes.{Fits32}
use Rattle.wc_binary.specs.Writing.Values.{desc_bytes, import_bytes, export_bytes, FitsLimits, FitsName, FitsDesc}
use Rattle.wc_binary.specs.Writing.Values.{FitsImport, FitsExport, Anything}
use Rattle.wc_binary.proofs.phrases.AnyByte.{byte-stands, byte-told}
use Rattle.wc_binary.proofs.spelling.Judging.{HasBytes}
use Rattle.wc_ast.proofs.Utf8Bytes.{utf8-bytes}
use Rattle.wc_binary.proofs.spelling.Phrases.{of, writes-as, u32-writes, byte-writes, then-writes, seen-writes}
use Rattle.wc_binary.proofs.spelling.Phrases.{made-writes}
use Rattle.wc_binary.proofs.spelling.Types.{limits-writes, table_type-writes, global_type-writes}

-- ---- names

pub raw-written : (bytes : List ℕ) → AllByRecursion IsByte bytes
    → SpellsBy canonical (times (length bytes) any_byte) bytes bytes
unfolding any_byte
raw-written [] are = (refl, refl)
raw-written (x ∷ bytes) are = (
  x ∷ [],
  bytes,
  x,
  refl,
  (x, refl, byte-stands x are.0),
  (bytes, [], bytes, sym (append-nil bytes), raw-written bytes are.1, (refl, refl)),
)

pub raw-told : (s : Style) (n : ℕ) (b bytes : List ℕ) → SpellsBy s (times n any_byte) b bytes
    → (n ≡ length bytes) × (b ≡ bytes) × AllByRecursion IsByte bytes
unfolding any_byte
raw-told s zero b bytes h = let is = h.1 in rw is (refl, h.0, tt)
raw-told s (suc n) b bytes h =
    let k = h.5 in
    let ih = raw-told s n k.0 k.2 k.4 in
    let one = byte-told h.4.0 h.2 h.4.2 in
    let head : h.4.0 ≡ h.2 = one.0 in
    let rest : h.1 ≡ k.2 = rw (k.3, k.5.0, append-nil) ih.1 in
    let is : bytes ≡ h.2 ∷ k.2 = k.5.1 in
    rw is (ap suc ih.0, rw (h.3, h.4.1, head, rest) refl, (subst IsByte head one.1, ih.2))

abbrev no_fault : Option (ℕ × BinWhy)
no_fault = None

good-utf8 : (bytes : List ℕ) → utf8_fault bytes ≡ no_fault → IsUtf8 bytes
good-utf8 bytes h = go (is_utf8 bytes) refl
  where
    go : (b : Bool) → is_utf8 bytes ≡ b → IsUtf8 bytes
    go true e = IsUtf8-from_is_utf8 bytes e
    go false e = let f = rw e at h in absurd cc

pub name-writes : HasBytes (of name) FitsName name_bytes
unfolding name
name-writes = record {
  written =
      λ v h. let good = is_utf8-from_IsUtf8 v h.1
      in (
        unsigned_bytes (length v),
        v,
        length v,
        refl,
        u32-writes.written (length v) h.0,
        (raw-written v (utf8-bytes v h.1), rw good refl),
      );
  told = λ s V j b v h.
      let n = u32-writes.told s V j h.0 h.2 h.4 in
      let r = raw-told s h.2 h.1 v h.5.0 in
      let long = r.0 in
      let split = h.3 in
      let whole = j.join h.0 h.1 (unsigned_bytes h.2) v n.1 (j.equal h.1 v r.1) in
      ((rw long at n.0, good-utf8 v h.5.1), rw split (rw long at whole));
}

-- ---- imports and exports

abbrev ok_kind : ExportKind → Result ExportKind BinWhy
ok_kind v = Ok v

kind-only : (x : ℕ) (v : ExportKind) → kind_of x ≡ Ok v → x ∷ [] ≡ kind_bytes v
kind-only x v h = go (nat_eq x 0) (nat_eq x 1) (nat_eq x 2) (nat_eq x 3) refl refl refl refl
  where
    go : (a b c d : Bool) → nat_eq x 0 ≡ a → nat_eq x 1 ≡ b → nat_eq x 2 ≡ c → nat_eq x 3 ≡ d → x ∷ [] ≡ kind_bytes v
    go true b c d p q r s =
        let e : ok_kind kinds.Func ≡ Ok v = rw p at h in
        let f : kinds.Func ≡ v = cc in rw (← f) (ap (λ (y : ℕ). y ∷ []) (eqb-true x 0 p))
    go false true c d p q r s =
        let e : ok_kind kinds.Table ≡ Ok v = rw (p, q) at h in
        let f : kinds.Table ≡ v = cc in rw (← f) (ap (λ (y : ℕ). y ∷ []) (eqb-true x 1 q))
    go false false true d p q r s =
        let e : ok_kind kinds.Memory ≡ Ok v = rw (p, q, r) at h in
        let f : kinds.Memory ≡ v = cc in rw (← f) (ap (λ (y : ℕ). y ∷ []) (eqb-true x 2 r))
    go false false false true p q r s =
        let e : ok_kind kinds.Global ≡ Ok v = rw (p, q, r, s) at h in
        let f : kinds.Global ≡ v = cc in rw (← f) (ap (λ (y : ℕ). y ∷ []) (eqb-true x 3 s))
    go false false false false p q r s = let e = rw (p, q, r, s) at h in absurd cc

pub kind-writes : HasBytes (of kind) Anything kind_bytes
unfolding kind
kind-writes =
    byte-writes kind_of kind_bytes
    (elim [
      | kinds.Func ↦ (0, refl, refl)
      | kinds.Table ↦ (1, refl, refl)
      | kinds.Memory ↦ (
        2,
        refl,
        refl,
      )
      | kinds.Global ↦ (3, refl, refl)
    ])
    kind-only

abbrev desc_kind : Desc → ExportKind
desc_kind (descs.Func index) = kinds.Func
desc_kind (descs.Table l) = kinds.Table
desc_kind (descs.Memory l) = kinds.Memory
desc_kind (descs.Global g) = kinds.Global

-- what stands behind the kind
abbrev behind_kind : Desc → List ℕ
behind_kind (descs.Func index) = unsigned_bytes index
behind_kind (descs.Table l) = table_type_bytes l
behind_kind (descs.Memory l) = limits_bytes l
behind_kind (descs.Global g) = global_type_bytes g

abbrev FitsKind : ExportKind → Desc → Type 0
FitsKind k d = (k ≡ desc_kind d) × FitsDesc d

func-back : (d : Desc) → FitsKind kinds.Func d → (n : ℕ) × (d ≡ descs.Func n) × Fits32 n
func-back (descs.Func n) h = (n, refl, h.1)
func-back (descs.Table l) h = let e = h.0 in absurd cc
func-back (descs.Memory l) h = let e = h.0 in absurd cc
func-back (descs.Global g) h = let e = h.0 in absurd cc

table-back : (d : Desc) → FitsKind kinds.Table d → (l : Limits) × (d ≡ descs.Table l) × FitsLimits l
table-back (descs.Func n) h = let e = h.0 in absurd cc
table-back (descs.Table l) h = (l, refl, h.1)
table-back (descs.Memory l) h = let e = h.0 in absurd cc
table-back (descs.Global g) h = let e = h.0 in absurd cc

memory-back : (d : Desc) → FitsKind kinds.Memory d → (l : Limits) × (d ≡ descs.Memory l) × FitsLimits l
memory-back (descs.Func n) h = let e = h.0 in absurd cc
memory-back (descs.Table l) h = let e = h.0 in absurd cc
memory-back (descs.Memory l) h = (l, refl, h.1)
memory-back (descs.Global g) h = let e = h.0 in absurd cc

global-back : (d : Desc) → FitsKind kinds.Global d → (g : GlobalType) × (d ≡ descs.Global g) × Anything g
global-back (descs.Func n) h = let e = h.0 in absurd cc
global-back (descs.Table l) h = let e = h.0 in absurd cc
global-back (descs.Memory l) h = let e = h.0 in absurd cc
global-back (descs.Global g) h = (g, refl, tt)

desc_of-writes : (k : ExportKind) → HasBytes (of (desc_of k)) (FitsKind k) behind_kind
desc_of-writes kinds.Func =
    made-writes u32 Fits32 unsigned_bytes (λ n. descs.Func n) (FitsKind kinds.Func) behind_kind u32-writes
    (λ n f. (refl, f)) (λ n. refl) func-back
desc_of-writes kinds.Table =
    made-writes table_type FitsLimits table_type_bytes (λ l. descs.Table l)
    (FitsKind kinds.Table) behind_kind table_type-writes (λ l f. (refl, f)) (λ l. refl) table-back
desc_of-writes kinds.Memory =
    made-writes limits FitsLimits limits_bytes (λ l. descs.Memory l) (FitsKind kinds.Memory) behind_kind limits-writes
    (λ l f. (refl, f)) (λ l. refl) memory-back
desc_of-writes kinds.Global =
    made-writes global_type Anything global_type_bytes (λ g. descs.Global g)
    (FitsKind kinds.Global) behind_kind global_type-writes (λ g f. (refl, tt)) (λ g. refl) global-back

desc_bytes-split : (d : Desc) → kind_bytes (desc_kind d) ++ behind_kind d ≡ desc_bytes d
desc_bytes-split (descs.Func n) = refl
desc_bytes-split (descs.Table l) = refl
desc_bytes-split (descs.Memory l) = refl
desc_bytes-split (descs.Global g) = refl

pub desc-writes : HasBytes (of desc) FitsDesc desc_bytes
unfolding desc
desc-writes =
    writes-as (of desc) (λ d. Unit {0} × FitsKind (desc_kind d) d) FitsDesc
    (λ d. kind_bytes (desc_kind d) ++ behind_kind d) desc_bytes
    (then-writes kind desc_of Anything kind_bytes FitsKind (λ k d.
    behind_kind d) desc_kind kind-writes desc_of-writes kind-is)
    (λ d h. h.1.1) (λ d h. (tt, (refl, h))) desc_bytes-split
  where
    kind-is : (s : Style) (k : ExportKind) (b : List ℕ) (v : Desc) → SpellsBy s (desc_of k) b v → k ≡ desc_kind v
    kind-is s kinds.Func b v h = let is : v ≡ descs.Func h.2 = h.5.1 in rw is refl
    kind-is s kinds.Table b v h = let is : v ≡ descs.Table h.2 = h.5.1 in rw is refl
    kind-is s kinds.Memory b v h = let is : v ≡ descs.Memory h.2 = h.5.1 in rw is refl
    kind-is s kinds.Global b v h = let is : v ≡ descs.Global h.2 = h.5.1 in rw is refl

abbrev import_fits : Import → Type 0
import_fits i =
    FitsName i.«module» ×
    (FitsName i.name × (FitsDesc i.desc × (i ≡ record { «module» = i.«module»; name = i.name; desc = i.desc })))

pub import-writes : HasBytes (of import) FitsImport import_bytes
unfolding import
import-writes =
    writes-as (of import) import_fits FitsImport import_bytes import_bytes
    (then-writes name (λ m. name >>= λ n. desc >>= λ d. gives (record { «module» = m; name = n; desc = d }))
    FitsName name_bytes
    (λ m i. FitsName i.name × (FitsDesc i.desc × (i ≡ record { «module» = m; name = i.name; desc = i.desc })))
    (λ m i. name_bytes i.name ++ desc_bytes i.desc)
    (λ i. i.«module»)
    name-writes
    (λ m. then-writes name (λ n. desc >>= λ d. gives (record { «module» = m; name = n; desc = d }))
    FitsName name_bytes
    (λ n i. FitsDesc i.desc × (i ≡ record { «module» = m; name = n; desc = i.desc }))
    (λ n i. desc_bytes i.desc)
    (λ i. i.name)
    name-writes
    (λ n. seen-writes desc FitsDesc desc_bytes desc-writes (λ d. record { «module» = m; name = n; desc = d }) (λ i.
    i.desc) (λ d. refl))
    (λ s n b v h. sym (ap (λ (x : Import). x.name) h.5.1)))
    (λ s m b v h. sym (ap (λ (x : Import). x.«module») h.5.5.1)))
    (λ i h. (h.0, (h.1.0, h.1.1.0))) (λ i h. (h.0, (h.1.0, (h.1.1, refl)))) (λ i. refl)

abbrev export_fits : Export → Type 0
export_fits e =
    FitsName e.name × (Unit {0} × (Fits32 e.index × (e ≡ record { name = e.name; kind = e.kind; index = e.index })))

pub export-writes : HasBytes (of export) FitsExport export_bytes
unfolding export
export-writes =
    writes-as (of export) export_fits FitsExport export_bytes export_bytes
    (then-writes name (λ n. kind >>= λ k. u32 >>= λ x. gives (record { name = n; kind = k; index = x }))
    FitsName name_bytes
    (λ n e. Unit {0} × (Fits32 e.index × (e ≡ record { name = n; kind = e.kind; index = e.index })))
    (λ n e. kind_bytes e.kind ++ unsigned_bytes e.index)
    (λ e. e.name)
    name-writes
    (λ n. then-writes kind (λ k. u32 >>= λ x. gives (record { name = n; kind = k; index = x }))
    Anything kind_bytes
    (λ k e. Fits32 e.index × (e ≡ record { name = n; kind = k; index = e.index }))
    (λ k e. unsigned_bytes e.index)
    (λ e. e.kind)
    kind-writes
    (λ k. seen-writes u32 Fits32 unsigned_bytes u32-writes (λ x. record { name = n; kind = k; index = x }) (λ e.
    e.index) (λ x. refl))
    (λ s k b v h. sym (ap (λ (x : Export). x.kind) h.5.1)))
    (λ s n b v h. sym (ap (λ (x : Export). x.name) h.5.5.1)))
    (λ e h. (h.0, h.1.1.0)) (λ e h. (h.0, (tt, (h.1, refl)))) (λ e. refl)
