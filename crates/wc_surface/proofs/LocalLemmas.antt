-- One more local at the end.
use Rattle.std.proofs.Common.{◌≡◌, ℕ, zero, suc, ◌+◌, ◌<◌, ◌-◌, List, [], ◌∷◌, ◌++◌, length, Option, None, Some}
use Rattle.std.proofs.Common.{slice_get, is_some, false, ◌^◌, ◌≤◌}
use Rattle.std.proofs.Common.{slice_index_or, slice_set, refl, sym, ap, ◌∙◌, arith, append_assoc, subst}
use Rattle.std.proofs.lemmas.List.{append-nil}
use Rattle.wc_ops.specs.declared.val_type.ValType.{ValType}
use Rattle.wc_surface.specs.Standard.Identifiers.{Identifier}
use Rattle.wc_surface.specs.declared.local.Local.{Local}
use Rattle.wc_surface.specs.declared.local.LocalGroup.{LocalGroup}
use Rattle.wc_surface.specs.Standard.WrittenLocals.{local, locals_from, locals_of, written_out}
use Rattle.wc_surface.specs.Kept.Lengthening.{Lengthens, LastIs}

abbrev group : Option Identifier → ValType → ℕ → ℕ → LocalGroup
group id ty token count = record { id = id; ty = ty; token = token; count = count }

pub written_out-push : (gs : List LocalGroup) (id : Option Identifier) (ty : ValType) (token : ℕ)
    → written_out (gs ++ group id ty token 1 ∷ []) ≡ written_out gs ++ local id ty token ∷ []
written_out-push [] id ty token = refl
written_out-push (g ∷ gs) id ty token = ap (λ (x : List Local). locals_of g ++ x) (written_out-push gs id ty token)
    ∙ sym (append_assoc (locals_of g) (written_out gs) (local id ty token ∷ []))

from-more : (id : Option Identifier) (ty : ValType) (token count more next : ℕ) → more ≡ suc count
    → token + count ≡ next
    → locals_from id ty token more ≡ locals_from id ty token count ++ local id ty next ∷ []
from-more id ty token zero more next m e =
    let same : token ≡ next = omega (arith, e) in rw m (ap (λ (n : ℕ). local id ty n ∷ []) same)
from-more id ty token (suc count) more next m e = rw m (ap (λ (x : List Local). local id ty token ∷ x)
    (from-more id ty (suc token) count (suc count) next refl (omega (arith, e))))

pub written_out-last : (gs : List LocalGroup) (i : ℕ) (d : LocalGroup) (ty : ValType) (token : ℕ)
    → suc i ≡ length gs → LastIs (Lengthens ty token) gs
    → written_out (slice_set gs i (group None ty (slice_index_or gs i d).token ((slice_index_or gs i d).count + 1)))
    ≡ written_out gs ++ local None ty token ∷ []
written_out-last [] i d ty token h e = absurd e
written_out-last (g ∷ []) zero d ty token h e =
    rw (e.bare, e.same) (simp append-nil (from-more None ty g.token g.count (g.count + 1) token (omega arith) e.next))
written_out-last (g ∷ []) (suc i) d ty token h e = absurd (omega arith)
written_out-last (g ∷ k ∷ gs) zero d ty token h e = absurd (omega arith)
written_out-last (g ∷ k ∷ gs) (suc i) d ty token h e = ap (λ (x : List Local). locals_of g ++ x)
    (written_out-last (k ∷ gs) i d ty token (omega arith) e)
    ∙ sym (append_assoc (locals_of g) (written_out (k ∷ gs)) (local None ty token ∷ []))

pub last-some : (P : LocalGroup → Type 0) (gs : List LocalGroup) → LastIs P gs → 0 < length gs
last-some P [] e = absurd e
last-some P (g ∷ gs) e = omega arith

last-at : (P : LocalGroup → Type 0) (gs : List LocalGroup) (k : ℕ) (x : LocalGroup) → suc k ≡ length gs
    → Some x ≡ slice_get gs k → P x → LastIs P gs
last-at P [] k x n e p = absurd (omega arith)
last-at P (g ∷ []) zero x n e p = let same : x ≡ g = cc in subst P same p
last-at P (g ∷ []) (suc k) x n e p = absurd (omega arith)
last-at P (g ∷ h ∷ gs) zero x n e p = absurd (omega arith)
last-at P (g ∷ h ∷ gs) (suc k) x n e p = last-at P (h ∷ gs) k x (omega arith) e p

-- a fact of the element that is told as the last one
pub last-is : (P : LocalGroup → Type 0) (gs : List LocalGroup) (x : LocalGroup)
    → Some x ≡ slice_get gs (length gs - 1) → P x → LastIs P gs
last-is P [] x e p = absurd cc
last-is P (g ∷ gs) x e p = last-at P (g ∷ gs) (length (g ∷ gs) - 1) x (omega arith) e p

same-index : (gs : List LocalGroup) (i : ℕ) (x y : LocalGroup) → i < length gs
    → slice_index_or gs i x ≡ slice_index_or gs i y
same-index [] i x y h = absurd (omega arith)
same-index (g ∷ gs) zero x y h = refl
same-index (g ∷ gs) (suc i) x y h = same-index gs i x y (omega arith)

last-holds : (P : LocalGroup → Type 0) (gs : List LocalGroup) (i : ℕ) (d : LocalGroup) → suc i ≡ length gs
    → LastIs P gs → P (slice_index_or gs i d)
last-holds P [] i d n e = absurd e
last-holds P (g ∷ []) zero d n e = e
last-holds P (g ∷ []) (suc i) d n e = absurd (omega arith)
last-holds P (g ∷ h ∷ gs) zero d n e = absurd (omega arith)
last-holds P (g ∷ h ∷ gs) (suc i) d n e = last-holds P (h ∷ gs) i d (omega arith) e

none-is : (o : Option Identifier) → is_some o ≡ false → o ≡ None
none-is None e = refl
none-is (Some id) e = absurd cc

bare-local : (l : Local) → is_some l.id ≡ false → local None l.ty l.token ≡ l
bare-local l e = ap (λ (id : Option Identifier). local id l.ty l.token) (sym (none-is l.id e))

-- one more in the last group, of which x and y are what an index gave
pub put-last : (gs : List LocalGroup) (i : ℕ) (x y : LocalGroup) (l : Local) → x ≡ slice_index_or gs i x
    → y ≡ slice_index_or gs i y → suc i ≡ length gs → LastIs (Lengthens l.ty l.token) gs → is_some l.id ≡ false
    → written_out (slice_set gs i (group None l.ty x.token (y.count + 1))) ≡ written_out gs ++ l ∷ []
put-last gs i x y l ex ey n e none =
    let same : y ≡ x = ey ∙ same-index gs i y x (omega (arith, n)) ∙ sym ex in
    let is = written_out-last gs i x l.ty l.token n e
    ∙ ap (λ (m : Local). written_out gs ++ m ∷ []) (bare-local l none) in
    let one : written_out (slice_set gs i (group None l.ty x.token (x.count + 1))) ≡ written_out gs ++ l ∷ [] =
    subst (λ (z : LocalGroup). written_out (slice_set gs i (group None l.ty z.token (z.count + 1))) ≡ written_out gs ++
    l ∷ [])
    (sym ex) is in
    subst (λ (z : LocalGroup). written_out (slice_set gs i (group None l.ty x.token (z.count + 1))) ≡ written_out gs ++
    l ∷ [])
    (sym same) one

pub last-room : (gs : List LocalGroup) (i : ℕ) (y : LocalGroup) (ty : ValType) (token : ℕ) → y ≡ slice_index_or gs i y
    → suc i ≡ length gs → LastIs (Lengthens ty token) gs → y.count + 1 < 2 ^ 32
last-room gs i y ty token ey n e = subst (λ (z : LocalGroup). z.count + 1 < 2 ^ 32) (sym ey)
    (last-holds (Lengthens ty token) gs i y n e).room

abbrev pub AtMost : LocalGroup → Type 0
AtMost g = g.token + g.count ≤ 2 ^ 32

-- the token of one more in the last group, of which x and y are what an index gave
pub last-numbered : (gs : List LocalGroup) (i : ℕ) (x y : LocalGroup) (ty : ValType) (token : ℕ)
    → x ≡ slice_index_or gs i x
    → y ≡ slice_index_or gs i y → suc i ≡ length gs → LastIs (Lengthens ty token) gs → x.token + y.count ≡ token
last-numbered gs i x y ty token ex ey n e =
    let same : y ≡ x = ey ∙ same-index gs i y x (omega (arith, n)) ∙ sym ex in
    let holds : x.token + x.count ≡ token = subst (λ (z : LocalGroup). z.token + z.count ≡ token) (sym ex)
    (last-holds (Lengthens ty token) gs i x n e).next in
    subst (λ (z : LocalGroup). x.token + z.count ≡ token) (sym same) holds
