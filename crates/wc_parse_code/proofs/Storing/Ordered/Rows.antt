-- The rows of instructions, of those of their parts.
use Rattle.std.proofs.Common.{◌≡◌, ℕ, suc, ◌≤◌, List, [], ◌∷◌, ◌++◌, refl, sym, ap, ◌∙◌, subst, append_assoc}
use Rattle.std.proofs.Common.{append-nil}
use Rattle.std.proofs.Common.{arith}
use Rattle.wc_body.specs.Standard.Nested.{Region, empty, op, region, choice, ◌⧺◌}
use Rattle.wc_surface.specs.declared.type_use.TypeUse.{TypeUse as StoredUse}
use Rattle.wc_surface.specs.Standard.Identifiers.{Identifier}
use Rattle.wc_surface.specs.Standard.Written.Indices.{Index}
use Rattle.wc_surface.specs.Standard.Written.Instructions.{Plain, BlockType, Head, Instrs, short, use_of}
use Rattle.wc_parse_code.specs.Stored.Rows.{Rows, ids_in, labels_in, uses_in, type_uses_in, gathered, index_token}
use Rattle.wc_parse_code.specs.Stored.Rows.{rows_of}
use Rattle.wc_parse_code.proofs.Storing.Ordered.Order.{Rises, Row, row-none, row-rising, row-widen, row-append}
use Rattle.wc_parse_code.proofs.Storing.Ordered.Order.{row-swap}

-- rows of these
abbrev pub rows : List Head → List StoredUse → List Identifier → List Index → Rows
rows heads uses ids labels = record { heads = heads; uses = uses; ids = ids; labels = labels }

infixr 60 ◌⊕◌
-- each row behind the other
abbrev pub ◌⊕◌ : Rows → Rows → Rows
R ⊕ Q = rows (R.heads ++ Q.heads) (R.uses ++ Q.uses) (R.ids ++ Q.ids) (R.labels ++ Q.labels)

-- nothing is named by a place
abbrev pub no_rows : Rows
no_rows = rows [] [] [] []

-- what one instruction names
abbrev pub plain_rows : Plain → Rows
plain_rows p = rows [] (uses_in p) (ids_in p) (labels_in p)

-- what one head has
abbrev pub head_rows : Head → Rows
head_rows h = rows (h ∷ []) (type_uses_in h.token h.ty) [] []

-- the rows of instructions whose tokens are in this range
pub record Rowed (lo hi : ℕ) (c : Instrs) (R : Rows) : Type 0 where
  pub heads : Row (λ h. h.token) lo hi (gathered (λ p. []) (λ h. h ∷ []) c) R.heads
  pub uses : Row (λ u. u.token) lo hi (gathered uses_in (λ h. type_uses_in h.token h.ty) c) R.uses
  pub ids : Row (λ i. i.token) lo hi (gathered ids_in (λ h. []) c) R.ids
  pub labels : Row index_token lo hi (gathered labels_in (λ h. []) c) R.labels

pub rows-are : (lo hi : ℕ) (c : Instrs) (R : Rows) → Rowed lo hi c R → rows_of c ≡ R
rows-are lo hi c R h = same h.heads.is h.uses.is h.ids.is h.labels.is
  where
    same : {hs : List Head} {us : List StoredUse} {is : List Identifier} {ls : List Index} → hs ≡ R.heads → us ≡ R.uses
        → is ≡ R.ids → ls ≡ R.labels → rows hs us is ls ≡ R
    same a b c d = rw (a, b, c, d)

-- ---- one row

module _ {X : Type 0} (token : X → ℕ) (f : Plain → List X) (g : Head → List X) where
  gathered-append : (c d : Instrs) → gathered f g (c ⧺ d) ≡ gathered f g c ++ gathered f g d
  gathered-append empty d = refl
  gathered-append (op p next) d =
      ap (λ (xs : List X). f p ++ xs) (gathered-append next d)
      ∙ sym (append_assoc (f p) (gathered f g next) (gathered f g d))
  gathered-append (region r h inside next) d =
      ap (λ (xs : List X). g h ++ (gathered f g inside ++ xs)) (gathered-append next d) ∙ simp append_assoc
  gathered-append (choice h first second next) d =
      ap (λ (xs : List X). g h ++ (gathered f g first ++ (gathered f g second ++ xs))) (gathered-append next d)
      ∙ simp append_assoc

  -- these instructions have these, in the order of the text
  abbrev Of : ℕ → ℕ → Instrs → List X → Type 0
  Of lo hi c xs = Row token lo hi (gathered f g c) xs

  of-append : (lo mid hi : ℕ) (c d : Instrs) (xs ys : List X) → Of lo mid c xs → Of mid hi d ys
      → Of lo hi (c ⧺ d) (xs ++ ys)
  of-append lo mid hi c d xs ys h k =
      subst (λ (zs : List X). Row token lo hi zs (xs ++ ys)) (sym (gathered-append c d))
      (row-append token lo mid hi h k)

  of-swap : (lo mid hi : ℕ) (c d : Instrs) (xs ys : List X) → Of mid hi c xs → Of lo mid d ys
      → Of lo hi (c ⧺ d) (ys ++ xs)
  of-swap lo mid hi c d xs ys h k =
      subst (λ (zs : List X). Row token lo hi zs (ys ++ xs)) (sym (gathered-append c d)) (row-swap token lo mid hi h k)

  of-plain : (lo hi : ℕ) (p : Plain) → Rises token lo (f p) hi → Of lo hi (op p empty) (f p)
  of-plain lo hi p h =
      subst (λ (zs : List X). Row token lo hi zs (f p)) (sym (append-nil (f p))) (row-rising token lo hi (f p) h)

  of-region : (lo mid hi : ℕ) (r : Region) (h : Head) (c : Instrs) (xs : List X) → Rises token lo (g h) mid
      → Of mid hi c xs → Of lo hi (region r h c empty) (g h ++ xs)
  of-region lo mid hi r h c xs a b =
      row-append token lo mid hi (row-rising token lo mid (g h) a)
      (subst (λ (zs : List X). Row token mid hi zs xs) (sym (append-nil (gathered f g c))) b)

  of-choice : (lo mid end hi : ℕ) (h : Head) (c d : Instrs) (xs ys : List X) → Rises token lo (g h) mid
      → Of mid end c xs → Of end hi d ys → Of lo hi (choice h c d empty) (g h ++ (xs ++ ys))
  of-choice lo mid end hi h c d xs ys a b e =
      row-append token lo mid hi (row-rising token lo mid (g h) a)
      (row-append token mid end hi b
      (subst (λ (zs : List X). Row token end hi zs ys) (sym (append-nil (gathered f g d))) e))

  of-folded : (lo mid end third hi : ℕ) (h : Head) (c d e : Instrs) (xs ys zs : List X) → Rises token lo (g h) mid
      → Of mid end c xs → Of end third d ys → Of third hi e zs
      → Of lo hi (c ⧺ choice h d e empty) (g h ++ (xs ++ (ys ++ zs)))
  of-folded lo mid end third hi h c d e xs ys zs a b i j =
      subst (λ (all : List X). Row token lo hi all (g h ++ (xs ++ (ys ++ zs)))) (sym split)
      (subst (λ (all : List X). Row token lo hi ((gathered f g c ++ g h) ++ (gathered f g d ++ gathered f g e)) all)
      (append_assoc (g h) xs (ys ++ zs))
      (row-append token lo end hi (row-swap token lo mid end b (row-rising token lo mid (g h) a))
      (row-append token end third hi i j)))
    where
      split : gathered f g (c ⧺ choice h d e empty) ≡ (gathered f g c ++ g h) ++ (gathered f g d ++ gathered f g e)
      split =
          gathered-append c (choice h d e empty)
          ∙ ap (λ (xs : List X). gathered f g c ++ (g h ++ (gathered f g d ++ xs))) (append-nil (gathered f g e))
          ∙ sym (append_assoc (gathered f g c) (g h) (gathered f g d ++ gathered f g e))

-- ---- all rows

pub rowed-none : (lo hi : ℕ) → lo ≤ hi → Rowed lo hi empty no_rows
rowed-none lo hi e = record {
  heads = row-none (λ h. h.token) lo hi e;
  uses = row-none (λ u. u.token) lo hi e;
  ids = row-none (λ i. i.token) lo hi e;
  labels = row-none index_token lo hi e;
}

pub rowed-widen : (low lo hi high : ℕ) {c : Instrs} {R : Rows} → low ≤ lo → hi ≤ high → Rowed lo hi c R
    → Rowed low high c R
rowed-widen low lo hi high e f h = record {
  heads = row-widen (λ h. h.token) low lo hi high e f h.heads;
  uses = row-widen (λ u. u.token) low lo hi high e f h.uses;
  ids = row-widen (λ i. i.token) low lo hi high e f h.ids;
  labels = row-widen index_token low lo hi high e f h.labels;
}

pub rowed-append : (lo mid hi : ℕ) {c d : Instrs} {R Q : Rows} → Rowed lo mid c R → Rowed mid hi d Q
    → Rowed lo hi (c ⧺ d) (R ⊕ Q)
rowed-append lo mid hi {c = c} {d = d} {R = R} {Q = Q} h k = record {
  heads = of-append (λ h. h.token) (λ p. []) (λ h. h ∷ []) lo mid hi c d R.heads Q.heads h.heads k.heads;
  uses = of-append (λ u. u.token) uses_in (λ h. type_uses_in h.token h.ty) lo mid hi c d R.uses Q.uses h.uses k.uses;
  ids = of-append (λ i. i.token) ids_in (λ h. []) lo mid hi c d R.ids Q.ids h.ids k.ids;
  labels = of-append index_token labels_in (λ h. []) lo mid hi c d R.labels Q.labels h.labels k.labels;
}

pub rowed-swap : (lo mid hi : ℕ) {c d : Instrs} {R Q : Rows} → Rowed mid hi c R → Rowed lo mid d Q
    → Rowed lo hi (c ⧺ d) (Q ⊕ R)
rowed-swap lo mid hi {c = c} {d = d} {R = R} {Q = Q} h k = record {
  heads = of-swap (λ h. h.token) (λ p. []) (λ h. h ∷ []) lo mid hi c d R.heads Q.heads h.heads k.heads;
  uses = of-swap (λ u. u.token) uses_in (λ h. type_uses_in h.token h.ty) lo mid hi c d R.uses Q.uses h.uses k.uses;
  ids = of-swap (λ i. i.token) ids_in (λ h. []) lo mid hi c d R.ids Q.ids h.ids k.ids;
  labels = of-swap index_token labels_in (λ h. []) lo mid hi c d R.labels Q.labels h.labels k.labels;
}

-- what one instruction names stands in the order of the text
pub record PlainRises (lo hi : ℕ) (p : Plain) : Type 0 where
  pub range : lo ≤ hi
  pub uses : Rises (λ u. u.token) lo (uses_in p) hi
  pub ids : Rises (λ i. i.token) lo (ids_in p) hi
  pub labels : Rises index_token lo (labels_in p) hi

pub rowed-plain : (lo hi : ℕ) (p : Plain) → PlainRises lo hi p → Rowed lo hi (op p empty) (plain_rows p)
rowed-plain lo hi p h = record {
  heads = row-none (λ h. h.token) lo hi h.range;
  uses = of-plain (λ u. u.token) uses_in (λ h. type_uses_in h.token h.ty) lo hi p h.uses;
  ids = of-plain (λ i. i.token) ids_in (λ h. []) lo hi p h.ids;
  labels = of-plain index_token labels_in (λ h. []) lo hi p h.labels;
}

type-rises : (lo token : ℕ) (ty : BlockType) → lo ≤ token → Rises (λ u. u.token) lo (type_uses_in token ty) (suc token)
type-rises lo token (short t) e = omega (arith, e)
type-rises lo token (use_of u) e = (e, omega arith)

pub rowed-region : (lo hi : ℕ) (r : Region) (h : Head) {c : Instrs} {R : Rows} → lo ≤ h.token
    → Rowed (suc h.token) hi c R → Rowed lo hi (region r h c empty) (head_rows h ⊕ R)
rowed-region lo hi r h {c = c} {R = R} e k = record {
  heads = of-region (λ h. h.token) (λ p. []) (λ h. h ∷ []) lo (suc h.token) hi r h c R.heads (e, omega arith) k.heads;
  uses = of-region (λ u. u.token) uses_in (λ h. type_uses_in h.token h.ty) lo (suc h.token) hi r h c R.uses
      (type-rises lo h.token h.ty e) k.uses;
  ids = of-region (λ i. i.token) ids_in (λ h. []) lo (suc h.token) hi r h c R.ids (omega (arith, e)) k.ids;
  labels = of-region index_token labels_in (λ h. []) lo (suc h.token) hi r h c R.labels (omega (arith, e)) k.labels;
}

pub rowed-choice : (lo mid hi : ℕ) (h : Head) {c d : Instrs} {R Q : Rows} → lo ≤ h.token
    → Rowed (suc h.token) mid c R → Rowed mid hi d Q → Rowed lo hi (choice h c d empty) (head_rows h ⊕ (R ⊕ Q))
rowed-choice lo mid hi h {c = c} {d = d} {R = R} {Q = Q} e k l = record {
  heads = of-choice (λ h. h.token) (λ p. []) (λ h. h ∷ []) lo (suc h.token) mid hi h c d R.heads Q.heads
      (e, omega arith) k.heads l.heads;
  uses = of-choice (λ u. u.token) uses_in (λ h. type_uses_in h.token h.ty) lo (suc h.token) mid hi h c d R.uses Q.uses
      (type-rises lo h.token h.ty e) k.uses l.uses;
  ids = of-choice (λ i. i.token) ids_in (λ h. []) lo (suc h.token) mid hi h c d R.ids Q.ids (omega (arith, e))
      k.ids l.ids;
  labels = of-choice index_token labels_in (λ h. []) lo (suc h.token) mid hi h c d R.labels Q.labels (omega (arith, e))
      k.labels l.labels;
}

-- the condition stands in front of the if, but its head is written first
pub rowed-folded : (lo end third hi : ℕ) (h : Head) {c d e : Instrs} {R Q S : Rows} → lo ≤ h.token
    → Rowed (suc h.token) end c R → Rowed end third d Q → Rowed third hi e S
    → Rowed lo hi (c ⧺ choice h d e empty) (head_rows h ⊕ (R ⊕ (Q ⊕ S)))
rowed-folded lo end third hi h {c = c} {d = d} {e = e} {R = R} {Q = Q} {S = S} less k l m = record {
  heads = of-folded (λ h. h.token) (λ p. []) (λ h. h ∷ []) lo (suc h.token) end third hi h c d e R.heads Q.heads
      S.heads
      (less, omega arith) k.heads l.heads m.heads;
  uses = of-folded (λ u. u.token) uses_in (λ h. type_uses_in h.token h.ty) lo (suc h.token) end third hi h c d e
      R.uses Q.uses S.uses (type-rises lo h.token h.ty less) k.uses l.uses m.uses;
  ids = of-folded (λ i. i.token) ids_in (λ h. []) lo (suc h.token) end third hi h c d e R.ids Q.ids S.ids
      (omega (arith, less)) k.ids l.ids m.ids;
  labels = of-folded index_token labels_in (λ h. []) lo (suc h.token) end third hi h c d e R.labels Q.labels S.labels
      (omega (arith, less)) k.labels l.labels m.labels;
}
