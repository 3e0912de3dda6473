-- Groups of locals that are merged: one grouping, with the fewest groups, and the fewest bytes.
use Rattle.std.proofs.Common.{◌≡◌, ℕ, zero, suc, ◌+◌, ◌<◌, ◌≤◌, List, [], ◌∷◌, ◌++◌, length, replicate, arith}
use Rattle.std.proofs.Common.{◌⊎◌, inl, inr, refl, sym, ap, ◌∙◌, append_assoc}
use Rattle.std.specs.List.{flat_map}
use Rattle.std.proofs.lemmas.List.{length-append, length-replicate, replicate-append-replicate}
use Rattle.wc_leb128.specs.Writing.Bytes.{unsigned_bytes}
use Rattle.wc_leb128.proofs.Writing.Lengths.{length-unsigned_bytes-some, length-unsigned_bytes-sum}
use Rattle.wc_ops.specs.declared.val_type.ValType.{ValType}
use Rattle.wc_ops.specs.declared.val_type.ValType.TheVariants.{I32, I64}
use Rattle.wc_ast.specs.declared.locals.Group.{Group}
use Rattle.wc_ast.specs.Standard.LocalGroups.{written_out, IsGrouped, BeginsOtherwise}
use Rattle.wc_ast.proofs.Groups.GroupLemmas.{one-grouping}
use Rattle.wc_body.specs.Standard.ValueBytes.{value_type_bytes}
use Rattle.wc_binary.specs.Writing.Locals.{group_of, added, merged, group_bytes}

-- how many locals the groups stand for
abbrev pub counted : List Group → ℕ
counted [] = 0
counted (g ∷ gs) = g.count + counted gs

pub length-written_out : (gs : List Group) → length (written_out gs) ≡ counted gs
length-written_out [] = refl
length-written_out (g ∷ gs) = omega (
  arith,
  length-append (replicate g.count g.value_type) (written_out gs),
  length-replicate g.count g.value_type,
  length-written_out gs,
)

-- ---- locals before groups

module _ (n k : ℕ) (gs : List Group) where
  added-added-cons : (m : ℕ) (t u : ValType)
      → added m t (added n t (group_of k u ∷ gs)) ≡ added (m + n) t (group_of k u ∷ gs)
  added-added-cons m I32 I32 = ap (λ (x : ℕ). group_of x I32 ∷ gs) (omega arith)
  added-added-cons m I32 I64 = refl
  added-added-cons m I64 I32 = refl
  added-added-cons m I64 I64 = ap (λ (x : ℕ). group_of x I64 ∷ gs) (omega arith)

  counted-added-cons : (t u : ValType) → counted (added n t (group_of k u ∷ gs)) ≡ n + (k + counted gs)
  counted-added-cons I32 I32 = omega arith
  counted-added-cons I32 I64 = refl
  counted-added-cons I64 I32 = refl
  counted-added-cons I64 I64 = omega arith

  length-added-cons : (t u : ValType) → length (added n t (group_of k u ∷ gs)) ≤ suc (suc (length gs))
  length-added-cons I32 I32 = omega arith
  length-added-cons I32 I64 = omega arith
  length-added-cons I64 I32 = omega arith
  length-added-cons I64 I64 = omega arith

  one-type : (t : ValType) → replicate (n + k) t ++ written_out gs ≡ replicate n t ++ (replicate k t ++ written_out gs)
  one-type t = rw (← replicate-append-replicate n k t) (append_assoc (replicate n t) (replicate k t) (written_out gs))

  written_out-added-cons : (t u : ValType)
      → written_out (added n t (group_of k u ∷ gs)) ≡ replicate n t ++ (replicate k u ++ written_out gs)
  written_out-added-cons I32 I32 = one-type I32
  written_out-added-cons I32 I64 = refl
  written_out-added-cons I64 I32 = refl
  written_out-added-cons I64 I64 = one-type I64

  grouped-added-cons : (t u : ValType) → 0 < n → IsGrouped (group_of k u ∷ gs)
      → IsGrouped (added n t (group_of k u ∷ gs))
  grouped-added-cons I32 I32 p h = (omega arith, h.1, h.2)
  grouped-added-cons I32 I64 p h = (p, (λ e. absurd cc), h)
  grouped-added-cons I64 I32 p h = (p, (λ e. absurd cc), h)
  grouped-added-cons I64 I64 p h = (omega arith, h.1, h.2)

added-one : (m n : ℕ) (t : ValType) → added m t (group_of n t ∷ []) ≡ group_of (m + n) t ∷ []
added-one m n I32 = refl
added-one m n I64 = refl

added-added : (m n : ℕ) (t : ValType) (gs : List Group) → added m t (added n t gs) ≡ added (m + n) t gs
added-added m n t [] = added-one m n t
added-added m n t (g ∷ gs) = added-added-cons n g.count gs m t g.value_type

counted-added : (n : ℕ) (t : ValType) (gs : List Group) → counted (added n t gs) ≡ n + counted gs
counted-added n t [] = refl
counted-added n t (g ∷ gs) = counted-added-cons n g.count gs t g.value_type

length-added : (n : ℕ) (t : ValType) (gs : List Group) → length (added n t gs) ≤ suc (length gs)
length-added n t [] = omega arith
length-added n t (g ∷ gs) = length-added-cons n g.count gs t g.value_type

written_out-added : (n : ℕ) (t : ValType) (gs : List Group)
    → written_out (added n t gs) ≡ replicate n t ++ written_out gs
written_out-added n t [] = refl
written_out-added n t (g ∷ gs) = written_out-added-cons n g.count gs t g.value_type

grouped-added : (n : ℕ) (t : ValType) (gs : List Group) → 0 < n → IsGrouped gs → IsGrouped (added n t gs)
grouped-added n t [] p h = (p, tt, tt)
grouped-added n t (g ∷ gs) p h = grouped-added-cons n g.count gs t g.value_type p h

-- ---- merged groups

merged-replicate : (n : ℕ) (t : ValType) (ts : List ValType)
    → merged (replicate (suc n) t ++ ts) ≡ added (suc n) t (merged ts)
merged-replicate zero t ts = refl
merged-replicate (suc n) t ts =
    let gs = merged ts in
    let one-more : 1 + suc n ≡ suc (suc n) = omega arith in
    ap (added 1 t) (merged-replicate n t ts) ∙ added-added 1 (suc n) t gs ∙ ap (λ (x : ℕ). added x t gs) one-more

pub counted-merged : (ts : List ValType) → counted (merged ts) ≡ length ts
counted-merged [] = refl
counted-merged (t ∷ ts) = omega (arith, counted-added 1 t (merged ts), counted-merged ts)

pub length-merged : (ts : List ValType) → length (merged ts) ≤ length ts
length-merged [] = omega arith
length-merged (t ∷ ts) = omega (arith, length-added 1 t (merged ts), length-merged ts)

pub written_out-merged : (ts : List ValType) → written_out (merged ts) ≡ ts
written_out-merged [] = refl
written_out-merged (t ∷ ts) =
    written_out-added 1 t (merged ts) ∙ ap (λ (x : List ValType). t ∷ x) (written_out-merged ts)

pub grouped-merged : (ts : List ValType) → IsGrouped (merged ts)
grouped-merged [] = tt
grouped-merged (t ∷ ts) = grouped-added 1 t (merged ts) (omega arith) (grouped-merged ts)

-- a grouping in which no group is empty and neighbours differ is the merged one
pub merged-grouped : (gs : List Group) → IsGrouped gs → merged (written_out gs) ≡ gs
merged-grouped gs h =
    let ts = written_out gs in
    one-grouping (merged ts) gs (grouped-merged ts) h (written_out-merged ts)

-- ---- merged groups take the fewest bytes: a merge saves a type, and one count takes no more bytes than two

abbrev width : ℕ → ℕ
width n = length (unsigned_bytes n)

-- how many bytes the groups take
abbrev pub size : List Group → ℕ
size [] = 0
size (g ∷ gs) = width g.count + 1 + size gs

pub type-byte : (t : ValType) → length (value_type_bytes t) ≡ 1
type-byte I32 = refl
type-byte I64 = refl

pub length-group_bytes : (gs : List Group) → length (flat_map group_bytes gs) ≡ size gs
length-group_bytes [] = refl
length-group_bytes (g ∷ gs) = omega (
  arith,
  length-append (group_bytes g) (flat_map group_bytes gs),
  length-append (unsigned_bytes g.count) (value_type_bytes g.value_type),
  type-byte g.value_type,
  length-group_bytes gs,
)

-- the groups r are no more than the groups gs, and take fewer bytes unless those are merged already
pub record Beaten (gs r : List Group) : Type 0 where
  pub few : length r ≤ length gs
  pub small : (gs ≡ r) ⊎ ((IsGrouped gs → ⊥) × (size r < size gs))

-- where locals go into the first group, that takes fewer bytes than a group of their own
abbrev AddedWell : ℕ → ValType → List Group → Type 0
AddedWell n t r =
    (size (added n t r) ≤ width n + 1 + size r)
    × ((added n t r ≡ group_of n t ∷ r) ⊎ ((BeginsOtherwise t r → ⊥) × (size (added n t r) < width n + 1 + size r)))

module _ (n k : ℕ) (r : List Group) where
  added-well-cons : (t u : ValType) → AddedWell n t (group_of k u ∷ r)
  added-well-cons I32 I32 = let w = length-unsigned_bytes-sum n k in (omega arith, inr ((λ ne. ne refl), omega arith))
  added-well-cons I32 I64 = (omega arith, inl refl)
  added-well-cons I64 I32 = (omega arith, inl refl)
  added-well-cons I64 I64 = let w = length-unsigned_bytes-sum n k in (omega arith, inr ((λ ne. ne refl), omega arith))

added-well : (n : ℕ) (t : ValType) (r : List Group) → AddedWell n t r
added-well n t [] = (omega arith, inl refl)
added-well n t (g ∷ r) = added-well-cons n g.count r t g.value_type

beaten-cons : (n : ℕ) (t : ValType) (gs : List Group) → Beaten gs (merged (written_out gs))
    → Beaten (group_of n t ∷ gs) (merged (replicate n t ++ written_out gs))
beaten-cons zero t gs ih =
    let few = ih.few in
    let some = length-unsigned_bytes-some 0 in
    record {
      few = omega arith;
      small = inr (
        (λ h. omega (arith, h.0)),
        elim ih.small [ inl e ↦ omega (arith, ap size e) | inr s ↦ omega (arith, s.1) ],
      );
    }
beaten-cons (suc n) t gs ih =
    let few = ih.few in
    let r = merged (written_out gs) in
    let long = length-added (suc n) t r in
    let a = added-well (suc n) t r in
    rw (merged-replicate n t (written_out gs)) (record {
      few = omega arith;
      small = elim ih.small [
        | inl e ↦ elim a.1 [
          | inl f ↦ inl (ap (λ (x : List Group). group_of (suc n) t ∷ x) e ∙ sym f)
          | inr s ↦ inr ((λ h. s.0 (rw e at h.1)), omega (arith, s.1, ap size e))
        ]
        | inr s ↦ inr ((λ h. s.0 h.2), omega (arith, s.1, a.0))
      ];
    })

pub beaten : (gs : List Group) → Beaten gs (merged (written_out gs))
beaten [] = record { few = omega arith; small = inl refl }
beaten (g ∷ gs) = beaten-cons g.count g.value_type gs (beaten gs)
