-- One more group at the end.
use Rattle.std.proofs.Common.{◌≡◌, ◌≢◌, ℕ, zero, suc, ◌+◌, ◌<◌, ◌≤◌, List, [], ◌∷◌, ◌++◌, length, replicate}
use Rattle.std.proofs.Common.{slice_index_or, slice_set, refl, sym, ap, ◌∙◌, arith, append_assoc, subst}
use Rattle.std.proofs.lemmas.List.{append-nil, replicate-append-replicate, length-append, length-replicate}
use Rattle.wc_ops.specs.declared.val_type.ValType.{ValType}
use Rattle.wc_ast.specs.declared.locals.Group.{Group}
use Rattle.wc_ast.specs.Standard.LocalGroups.{written_out, IsGrouped, BeginsOtherwise}
use Rattle.wc_ast.specs.Kept.Locals.{EndsWith}

pub count-within : (gs : List Group) (i : ℕ) (d : Group) → i < length gs
    → (slice_index_or gs i d).count ≤ length (written_out gs)
count-within [] i d h = absurd (omega arith)
count-within (g ∷ gs) zero d h = simp (length-append, length-replicate) (omega arith)
count-within (g ∷ gs) (suc i) d h = let r = count-within gs i d (omega arith) in
    simp (length-append, length-replicate) (omega arith)

pub ends-with : (gs : List Group) (i : ℕ) (d : Group) (t : ValType) → suc i ≡ length gs
    → (slice_index_or gs i d).value_type ≡ t → EndsWith t gs
ends-with [] i d t h e = absurd (omega arith)
ends-with (g ∷ []) zero d t h e = e
ends-with (g ∷ []) (suc i) d t h e = absurd (omega arith)
ends-with (g ∷ k ∷ gs) zero d t h e = absurd (omega arith)
ends-with (g ∷ k ∷ gs) (suc i) d t h e = ends-with (k ∷ gs) i d t (omega arith) e

pub last-type : (gs : List Group) (i : ℕ) (d : Group) (t : ValType) → suc i ≡ length gs → EndsWith t gs
    → (slice_index_or gs i d).value_type ≡ t
last-type [] i d t h e = absurd e
last-type (g ∷ []) zero d t h e = e
last-type (g ∷ []) (suc i) d t h e = absurd (omega arith)
last-type (g ∷ k ∷ gs) zero d t h e = absurd (omega arith)
last-type (g ∷ k ∷ gs) (suc i) d t h e = last-type (k ∷ gs) i d t (omega arith) e

-- a group of so many of one type
abbrev pub group : ℕ → ValType → Group
group n t = record { count = n; value_type = t }

pub grouped-push : (gs : List Group) (n : ℕ) (t : ValType) → IsGrouped gs → 0 < n → (EndsWith t gs → ⊥)
    → IsGrouped (gs ++ group n t ∷ [])
grouped-push [] n t s p e = (p, tt, tt)
grouped-push (g ∷ []) n t s p e = (s.0, e, (p, tt, tt))
grouped-push (g ∷ k ∷ gs) n t s p e = (s.0, s.1, grouped-push (k ∷ gs) n t s.2 p e)

pub written_out-push : (gs : List Group) (n : ℕ) (t : ValType)
    → written_out (gs ++ group n t ∷ []) ≡ written_out gs ++ replicate n t
written_out-push [] n t = append-nil (replicate n t)
written_out-push (g ∷ gs) n t = ap (λ (x : List ValType). replicate g.count g.value_type ++ x)
    (written_out-push gs n t) ∙ sym (append_assoc (replicate g.count g.value_type) (written_out gs) (replicate n t))

pub grouped-set : (gs : List Group) (i : ℕ) (d : Group) (n : ℕ) (t : ValType) → suc i ≡ length gs → IsGrouped gs
    → EndsWith t gs → IsGrouped (slice_set gs i (group ((slice_index_or gs i d).count + n) t))
grouped-set [] i d n t h s e = absurd e
grouped-set (g ∷ []) zero d n t h s e = (omega (arith, s.0), tt, tt)
grouped-set (g ∷ []) (suc i) d n t h s e = absurd (omega arith)
grouped-set (g ∷ k ∷ gs) zero d n t h s e = absurd (omega arith)
grouped-set (g ∷ k ∷ []) (suc zero) d n t h s e = (
  s.0,
  (λ q. s.1 (q ∙ sym e)),
  grouped-set (k ∷ []) zero d n t
      (omega arith) s.2 e,
)
grouped-set (g ∷ k ∷ m ∷ gs) (suc zero) d n t h s e = absurd (omega arith)
grouped-set (g ∷ k ∷ gs) (suc (suc i)) d n t h s e = (s.0, s.1, grouped-set (k ∷ gs) (suc i) d n t (omega arith) s.2 e)

pub written_out-set : (gs : List Group) (i : ℕ) (d : Group) (n : ℕ) (t : ValType) → suc i ≡ length gs → EndsWith t gs
    → written_out (slice_set gs i (group ((slice_index_or gs i d).count + n) t)) ≡ written_out gs ++ replicate n t
written_out-set [] i d n t h e = absurd e
written_out-set (g ∷ []) zero d n t h e = rw e (simp append-nil (sym (replicate-append-replicate g.count n t)))
written_out-set (g ∷ []) (suc i) d n t h e = absurd (omega arith)
written_out-set (g ∷ k ∷ gs) zero d n t h e = absurd (omega arith)
written_out-set (g ∷ k ∷ gs) (suc i) d n t h e = ap (λ (x : List ValType). replicate g.count g.value_type ++ x)
    (written_out-set (k ∷ gs) i d n t (omega arith) e) ∙ sym (append_assoc (replicate g.count g.value_type)
    (written_out (k ∷ gs)) (replicate n t))

pub ends-some : (gs : List Group) (t : ValType) → EndsWith t gs → 0 < length gs
ends-some [] t e = absurd e
ends-some (g ∷ gs) t e = omega arith

-- the same, of the element x that an index gave
pub grouped-last : (gs : List Group) (i : ℕ) (x : Group) (n : ℕ) (t : ValType) → x ≡ slice_index_or gs i x
    → suc i ≡ length gs → IsGrouped gs → EndsWith t gs → IsGrouped (slice_set gs i (group (x.count + n) t))
grouped-last gs i x n t is h s e = subst (λ (y : Group). IsGrouped (slice_set gs i (group (y.count + n) t))) (sym is)
    (grouped-set gs i x n t h s e)

pub written_out-last : (gs : List Group) (i : ℕ) (x : Group) (n : ℕ) (t : ValType) → x ≡ slice_index_or gs i x
    → suc i ≡ length gs → EndsWith t gs → written_out (slice_set gs i (group (x.count + n) t)) ≡ written_out gs ++
    replicate n t
written_out-last gs i x n t is h e = subst (λ (y : Group). written_out
    (slice_set gs i (group (y.count + n) t)) ≡ written_out gs ++ replicate n t) (sym is)
    (written_out-set gs i x n t h e)

pub count-last : (gs : List Group) (i : ℕ) (x : Group) → x ≡ slice_index_or gs i x → i < length gs
    → x.count ≤ length (written_out gs)
count-last gs i x is h = subst (λ (y : Group). y.count ≤ length (written_out gs)) (sym is) (count-within gs i x h)

-- ---- locals have one grouping
not-first-by : (t u : ValType) (n : ℕ) (more rest : List ValType) → 0 < n → t ≢ u → replicate n u ++ more ≡ t ∷ rest → ⊥
not-first-by t u zero more rest p d e = absurd (omega arith)
not-first-by t u (suc n) more rest p d e = let k : t ≡ u = cc in d k

not-first : (t : ValType) (gs : List Group) (rest : List ValType) → IsGrouped gs → BeginsOtherwise t gs
    → written_out gs ≡ t ∷ rest → ⊥
not-first t [] rest s d e = absurd cc
not-first t (g ∷ gs) rest s d e = not-first-by t g.value_type g.count (written_out gs) rest s.0 d e

same-run : (n m : ℕ) (t : ValType) (gs hs : List Group) → IsGrouped gs → IsGrouped hs → BeginsOtherwise t gs
    → BeginsOtherwise t hs
    → replicate n t ++ written_out gs ≡ replicate m t ++ written_out hs → (n ≡ m) × (written_out gs ≡ written_out hs)
same-run zero zero t gs hs s r b d e = (refl, e)
same-run zero (suc m) t gs hs s r b d e = absurd (not-first t gs (replicate m t ++ written_out hs) s b e)
same-run (suc n) zero t gs hs s r b d e = absurd (not-first t hs (replicate n t ++ written_out gs) r d (sym e))
same-run (suc n) (suc m) t gs hs s r b d e =
    let tail : replicate n t ++ written_out gs ≡ replicate m t ++ written_out hs = cc in
    let k = same-run n m t gs hs s r b d tail in
    (ap (λ (x : ℕ). suc x) k.0, k.1)

same-head : (n m : ℕ) (t u : ValType) (a b : List ValType) → 0 < n → 0 < m → replicate n t ++ a ≡ replicate m u ++ b
    → t ≡ u
same-head zero m t u a b p q e = absurd (omega arith)
same-head (suc n) zero t u a b p q e = absurd (omega arith)
same-head (suc n) (suc m) t u a b p q e = cc

not-none : (n : ℕ) (t : ValType) (a : List ValType) → 0 < n → [] ≡ replicate n t ++ a → ⊥
not-none zero t a p e = absurd (omega arith)
not-none (suc n) t a p e = absurd cc

same-group : (n m : ℕ) (t u : ValType) → n ≡ m → t ≡ u → group n t ≡ group m u
same-group n m t u e f = cc

pub one-grouping : (gs hs : List Group) → IsGrouped gs → IsGrouped hs → written_out gs ≡ written_out hs → gs ≡ hs
one-grouping [] [] s r e = refl
one-grouping [] (h ∷ hs) s r e = absurd (not-none h.count h.value_type (written_out hs) r.0 e)
one-grouping (g ∷ gs) [] s r e = absurd (not-none g.count g.value_type (written_out gs) s.0 (sym e))
one-grouping (g ∷ gs) (h ∷ hs) s r e =
    let t = same-head g.count h.count g.value_type h.value_type (written_out gs) (written_out hs) s.0 r.0 e in
    let run = same-run g.count h.count h.value_type gs hs s.2 r.2 (rw t at s.1) r.1 (rw t at e) in
    let first : g ≡ h = same-group g.count h.count g.value_type h.value_type run.0 t in
    let rest = one-grouping gs hs s.2 r.2 run.1 in
    cc
