-- What instructions name is found at its places, where the tokens that say them stand in the order of the text.
use Rattle.std.proofs.Common.{◌≡◌, ℕ, zero, suc, ◌≤◌, ◌^◌, List, [], ◌∷◌, ◌++◌, length, take, drop, Some}
use Rattle.std.proofs.Common.{slice_get, refl, sym, ap, ◌∙◌, subst, append_assoc, arith}
use Rattle.std.proofs.lemmas.List.{length_push}
use Rattle.std.proofs.lemmas.Option.{same_Some}
use Rattle.std.specs.List.{flat_map, AllByRecursion}
use Rattle.wc_body.specs.Standard.Nested.{Region, empty, op, region, choice, ◌⧺◌}
use Rattle.wc_body.specs.Standard.Throughout.{Throughout}
use Rattle.wc_syntax.specs.declared.role.Role.{Role}
use Rattle.wc_syntax.specs.declared.role.Role.TheVariants as role
use Rattle.wc_surface.specs.Standard.Written.Indices.{Index, number, named}
use Rattle.wc_surface.specs.Standard.Written.Instructions.{Plain, simple, indexed, br_table, call_indirect, access}
use Rattle.wc_surface.specs.Standard.Written.Instructions.{i32_const, i64_const, BlockType, short, use_of, Head, Instrs}
use Rattle.wc_parse_code.specs.Standard.Tokens.{KeptToken}
use Rattle.wc_parse_code.specs.Standard.Productions.Tokens.{Said, ◌⊳◌}
use Rattle.wc_parse_code.specs.Standard.Productions.Plain.{IsPlain}
use Rattle.wc_parse_code.specs.Standard.Productions.Instructions.{Part, Says}
use Rattle.wc_parse_code.specs.Stored.Rows.{Rows, id_in, type_uses_in, index_token}
use Rattle.wc_parse_code.specs.Stored.Bodies.{places_in}
use Rattle.wc_parse_code.specs.Stored.Order.{place_of}
use Rattle.wc_parse_code.proofs.Storing.Ordered.Order.{Rises, rises-from}
use Rattle.wc_parse_code.proofs.Storing.Ordered.Placing.{Placed, placed-all}
use Rattle.wc_parse_code.proofs.Storing.Ordered.Following.{Follow, follow-range, part}
use Rattle.wc_parse_code.proofs.Storing.Ordered.Rows.{◌⊕◌, no_rows, plain_rows, head_rows, Rowed, rows-are, rowed-none}
use Rattle.wc_parse_code.proofs.Storing.Ordered.Rows.{rowed-widen, rowed-append, rowed-swap, rowed-plain, rowed-region}
use Rattle.wc_parse_code.proofs.Storing.Ordered.Rows.{rowed-choice, rowed-folded}
use Rattle.wc_parse_code.proofs.Storing.Ordered.Rising.{plain-rises}
use Rattle.wc_parse_code.proofs.Storing.Nested.{first_tokens, second_tokens}
use Rattle.wc_parse_code.proofs.Storing.Folded.{condition_tokens, then_tokens}
use Rattle.wc_meaning.specs.Stored.Placed.{IndexPlaced, LabelsPlaced, PlainPlaced, TypePlaced, HeadPlaced, IsPlaced}

-- ---- one row

module _ {X : Type 0} (place : ℕ → ℕ) (token : X → ℕ) (all : List X) where
  -- from this place on these stand one behind the other, each at the place of its token
  abbrev pub Standing : ℕ → List X → Type 0
  Standing n [] = Unit {0}
  Standing n (x ∷ xs) = (place (token x) ≡ n) × (slice_get all n ≡ Some x) × Standing (suc n) xs

  -- from some place on
  abbrev pub Stands : List X → Type 0
  Stands xs = (n : ℕ) × Standing n xs

  stands-first : (n : ℕ) (xs ys : List X) → Standing n (xs ++ ys) → Standing n xs
  stands-first n [] ys h = tt
  stands-first n (x ∷ xs) ys h = (h.0, h.1, stands-first (suc n) xs ys h.2)

  stands-last : (n : ℕ) (xs ys : List X) → Standing n (xs ++ ys) → Stands ys
  stands-last n [] ys h = (n, h)
  stands-last n (x ∷ xs) ys h = stands-last (suc n) xs ys h.2

  -- the one at the place of its token
  one-found : (n : ℕ) (x : X) (xs : List X) → Standing n (x ∷ xs) → slice_get all (place (token x)) ≡ Some x
  one-found n x xs h = ap (slice_get all) h.0 ∙ h.1

next-of : {X : Type 0} (all : List X) (n : ℕ) (x : X) → slice_get all n ≡ Some x → drop n all ≡ x ∷ drop (suc n) all
next-of [] n x e = absurd cc
next-of (y ∷ ys) zero x e = ap (λ z. z ∷ ys) (same_Some y x e)
next-of (y ∷ ys) (suc n) x e = next-of ys n x e

module _ {X : Type 0} (place : ℕ → ℕ) (token : X → ℕ) (all : List X) where
  cut : (n : ℕ) (xs : List X) → Standing place token all n xs → take (length xs) (drop n all) ≡ xs
  cut n [] h = refl
  cut n (x ∷ xs) h =
      ap (take (suc (length xs))) (next-of all n x h.1) ∙ ap (λ (zs : List X). x ∷ zs) (cut (suc n) xs h.2)

  -- these up to a last one, of which the first has this token
  cut-last : (n t : ℕ) (xs : List X) (x : X) → place t ≡ n → Standing place token all n (xs ++ x ∷ [])
      → take (suc (length xs)) (drop (place t) all) ≡ xs ++ x ∷ []
  cut-last n t xs x e h =
      let long : suc (length xs) ≡ length (xs ++ x ∷ []) = omega (arith, length_push xs x) in
      ap (λ (k : ℕ). take (suc (length xs)) (drop k all)) e ∙ ap (λ (k : ℕ). take k (drop n all)) long
      ∙ cut n (xs ++ x ∷ []) h

pub at-end : {X : Type 0} (front xs : List X) (x : X) → slice_get (front ++ x ∷ xs) (length front) ≡ Some x
at-end [] xs x = refl
at-end (y ∷ ys) xs x = at-end ys xs x

stands-behind : {X : Type 0} (place : ℕ → ℕ) (token : X → ℕ) (all front xs : List X) (n : ℕ) → all ≡ front ++ xs
    → length front ≡ n → Placed place token n xs → Standing place token all n xs
stands-behind place token all front [] n e l h = tt
stands-behind place token all front (x ∷ xs) n e l h = (
  h.0,
  ap (λ zs. slice_get zs n) e ∙ ap (slice_get (front ++ x ∷ xs)) (sym l) ∙ at-end front xs x,
  stands-behind place token all (front ++ x ∷ []) xs (suc n) (e ∙ sym (append_assoc front (x ∷ []) xs))
      (omega (arith, length_push front x, l)) h.2,
)

stands-all : {X : Type 0} (token : X → ℕ) (xs : List X) (hi : ℕ) → hi ≤ 2 ^ 32 → Rises token 0 xs hi
    → Stands (place_of token xs) token xs xs
stands-all token xs hi e h =
    (0, stands-behind (place_of token xs) token xs [] xs 0 refl refl (placed-all token xs hi e h))

-- ---- all rows

-- the second rows stand in the first
pub record Found (all R : Rows) : Type 0 where
  pub heads : Stands (places_in all).head_at (λ h. h.token) all.heads R.heads
  pub uses : Stands (places_in all).use_at (λ u. u.token) all.uses R.uses
  pub ids : Stands (places_in all).id_at (λ i. i.token) all.ids R.ids
  pub labels : Stands (places_in all).label_at index_token all.labels R.labels

found-first : (all R Q : Rows) → Found all (R ⊕ Q) → Found all R
found-first all R Q h = record {
  heads = (
    h.heads.0,
    stands-first (places_in all).head_at (λ h. h.token) all.heads h.heads.0 R.heads Q.heads h.heads.1,
  );
  uses = (
    h.uses.0,
    stands-first (places_in all).use_at (λ u. u.token) all.uses h.uses.0 R.uses Q.uses h.uses.1,
  );
  ids = (h.ids.0, stands-first (places_in all).id_at (λ i. i.token) all.ids h.ids.0 R.ids Q.ids h.ids.1);
  labels = (
    h.labels.0,
    stands-first (places_in all).label_at index_token all.labels h.labels.0 R.labels Q.labels h.labels.1,
  );
}

found-last : (all R Q : Rows) → Found all (R ⊕ Q) → Found all Q
found-last all R Q h = record {
  heads = stands-last (places_in all).head_at (λ h. h.token) all.heads h.heads.0 R.heads Q.heads h.heads.1;
  uses = stands-last (places_in all).use_at (λ u. u.token) all.uses h.uses.0 R.uses Q.uses h.uses.1;
  ids = stands-last (places_in all).id_at (λ i. i.token) all.ids h.ids.0 R.ids Q.ids h.ids.1;
  labels = stands-last (places_in all).label_at index_token all.labels h.labels.0 R.labels Q.labels h.labels.1;
}

-- ---- an instruction and a head

module _ (all : Rows) where
  abbrev IdsStand : ℕ → List Index → Type 0
  IdsStand n xs = Standing (places_in all).id_at (λ i. i.token) all.ids n (flat_map id_in xs)

  ids-found : (xs : List Index) (n : ℕ) → IdsStand n xs → AllByRecursion (IndexPlaced all) xs
  ids-found [] n h = tt
  ids-found (number token k ∷ xs) n h = (tt, ids-found xs n h)
  ids-found (named i ∷ xs) n h =
      (one-found (places_in all).id_at (λ i. i.token) all.ids n i (flat_map id_in xs) h, ids-found xs (suc n) h.2)

  labels-found : (xs : List Index) (x : Index) (n : ℕ)
      → Standing (places_in all).label_at index_token all.labels n (xs ++ x ∷ []) → LabelsPlaced all xs x
  labels-found [] x n h = cut-last (places_in all).label_at index_token all.labels n (index_token x) [] x h.0 h
  labels-found (y ∷ ys) x n h =
      cut-last (places_in all).label_at index_token all.labels n (index_token y) (y ∷ ys) x h.0 h

  plain-found : (p : Plain) → Found all (plain_rows p) → PlainPlaced all p
  plain-found (simple o) h = tt
  plain-found (indexed o (number token n)) h = tt
  plain-found (indexed o (named i)) h =
      one-found (places_in all).id_at (λ i. i.token) all.ids h.ids.0 i [] h.ids.1
  plain-found (br_table xs x) h =
      (labels-found xs x h.labels.0 h.labels.1, ids-found (xs ++ x ∷ []) h.ids.0 h.ids.1)
  plain-found (call_indirect token u) h =
      one-found (places_in all).use_at (λ u. u.token) all.uses h.uses.0 _ [] h.uses.1
  plain-found (access o m) h = tt
  plain-found (i32_const bits) h = tt
  plain-found (i64_const bits) h = tt

  type-found : (token : ℕ) (t : BlockType)
      → Stands (places_in all).use_at (λ u. u.token) all.uses (type_uses_in token t) → TypePlaced all token t
  type-found token (short t) h = tt
  type-found token (use_of u) h = one-found (places_in all).use_at (λ u. u.token) all.uses h.0 _ [] h.1

  head-found : (h : Head) → Found all (head_rows h) → HeadPlaced all h
  head-found h f = (
    one-found (places_in all).head_at (λ h. h.token) all.heads f.heads.0 h [] f.heads.1,
    type-found h.token h.ty f.uses,
  )

-- ---- by each production

-- instructions whose tokens are in this range, and are found wherever their rows stand
pub record Finds (lo hi : ℕ) (c : Instrs) : Type 0 where
  pub rows : Rows
  pub rowed : Rowed lo hi c rows
  pub found : (all : Rows) → Found all rows → Throughout (PlainPlaced all) (HeadPlaced all) c

throughout-append : (all : Rows) (c d : Instrs) → Throughout (PlainPlaced all) (HeadPlaced all) c
    → Throughout (PlainPlaced all) (HeadPlaced all) d → Throughout (PlainPlaced all) (HeadPlaced all) (c ⧺ d)
throughout-append all empty d h k = k
throughout-append all (op p next) d h k = (h.0, throughout-append all next d h.1 k)
throughout-append all (region r x inside next) d h k = (h.0, h.1, throughout-append all next d h.2 k)
throughout-append all (choice x first second next) d h k = (h.0, h.1, h.2, throughout-append all next d h.3 k)

finds-none : (lo hi : ℕ) → lo ≤ hi → Finds lo hi empty
finds-none lo hi e = record { rows = no_rows; rowed = rowed-none lo hi e; found = λ all h. tt }

finds-both : (lo mid hi : ℕ) {c d : Instrs} → Finds lo mid c → Finds mid hi d → Finds lo hi (c ⧺ d)
finds-both lo mid hi {c = c} {d = d} a b = record {
  rows = a.rows ⊕ b.rows;
  rowed = rowed-append lo mid hi a.rowed b.rowed;
  found = λ all h.
      throughout-append all c d (a.found all (found-first all a.rows b.rows h))
      (b.found all (found-last all a.rows b.rows h));
}

finds-plain : (lo hi : ℕ) {r : Role} {us : List Said} {p : Plain} → IsPlain r us p → Follow lo us hi
    → Finds lo hi (op p empty)
finds-plain lo hi {p = p} i f = record {
  rows = plain_rows p;
  rowed = rowed-plain lo hi p (plain-rises lo hi i f);
  found = λ all h. (plain-found all p h, tt);
}

-- the operands, and then the instruction, whose tokens come first
finds-folded : (lo mid hi : ℕ) {p : Plain} {c : Instrs} → Finds lo mid (op p empty) → Finds mid hi c
    → Finds lo hi (c ⧺ op p empty)
finds-folded lo mid hi {p = p} {c = c} a b = record {
  rows = a.rows ⊕ b.rows;
  rowed = rowed-swap lo mid hi b.rowed a.rowed;
  found = λ all h.
      throughout-append all c (op p empty) (b.found all (found-last all a.rows b.rows h))
      (a.found all (found-first all a.rows b.rows h));
}

finds-widen : (low lo hi high : ℕ) {c : Instrs} → low ≤ lo → hi ≤ high → Finds lo hi c → Finds low high c
finds-widen low lo hi high e f a = record {
  rows = a.rows;
  rowed = rowed-widen low lo hi high e f a.rowed;
  found = a.found;
}

finds-region : (lo hi : ℕ) (r : Region) (h : Head) {c : Instrs} → lo ≤ h.token → Finds (suc h.token) hi c
    → Finds lo hi (region r h c empty)
finds-region lo hi r h e a = record {
  rows = head_rows h ⊕ a.rows;
  rowed = rowed-region lo hi r h e a.rowed;
  found = λ all f. (
    head-found all h (found-first all (head_rows h) a.rows f),
    a.found all (found-last all (head_rows h) a.rows f),
    tt,
  );
}

finds-choice : (lo mid hi : ℕ) (h : Head) {c d : Instrs} → lo ≤ h.token → Finds (suc h.token) mid c → Finds mid hi d
    → Finds lo hi (choice h c d empty)
finds-choice lo mid hi h e a b = record {
  rows = head_rows h ⊕ (a.rows ⊕ b.rows);
  rowed = rowed-choice lo mid hi h e a.rowed b.rowed;
  found = λ all f.
      let rest = found-last all (head_rows h) (a.rows ⊕ b.rows) f in (
        head-found all h (found-first all (head_rows h) (a.rows ⊕ b.rows) f),
        a.found all (found-first all a.rows b.rows rest),
        b.found all (found-last all a.rows b.rows rest),
        tt,
      );
}

-- the condition stands in front of the if, but the head is written first
finds-if : (lo end third hi : ℕ) (h : Head) {c d e : Instrs} → lo ≤ h.token → Finds (suc h.token) end c
    → Finds end third d → Finds third hi e → Finds lo hi (c ⧺ choice h d e empty)
finds-if lo end third hi h {c = c} {d = d} {e = e} less x a b = record {
  rows = head_rows h ⊕ (x.rows ⊕ (a.rows ⊕ b.rows));
  rowed = rowed-folded lo end third hi h less x.rowed a.rowed b.rowed;
  found = λ all f.
      let rest = found-last all (head_rows h) (x.rows ⊕ (a.rows ⊕ b.rows)) f in
      let parts = found-last all x.rows (a.rows ⊕ b.rows) rest in
      throughout-append all c (choice h d e empty) (x.found all (found-first all x.rows (a.rows ⊕ b.rows) rest)) (
        head-found all h (found-first all (head_rows h) (x.rows ⊕ (a.rows ⊕ b.rows)) f),
        a.found all (found-first all a.rows b.rows parts),
        b.found all (found-last all a.rows b.rows parts),
        tt,
      );
}

says-finds : {q : Part} {us : List Said} {c : Instrs} → Says q us c → (lo hi : ℕ) → Follow lo us hi → Finds lo hi c
says-finds Says.none lo hi f = finds-none lo hi f
says-finds (Says.more {us = us} {vs = vs} a b) lo hi f =
    let p = part lo hi us vs f in
    finds-both lo p.mid hi (says-finds a lo p.mid p.first) (says-finds b p.mid hi p.last)
says-finds (Says.plain h) lo hi f = finds-plain lo hi h f
says-finds (Says.folded a) lo hi f = says-finds a lo hi f
says-finds (Says.region z {w = w} {us = us} {is = is} {xs = xs} {r = r} i h a l) lo hi f =
    let p = part lo hi (first_tokens w us is) (role.End ⊳ z ∷ xs) f in
    let q = part lo p.mid (role.Begin ⊳ w ∷ us) is p.first in
    finds-region lo hi r _ q.first.2
    (finds-widen (suc w.token) q.mid p.mid hi (follow-range (suc w.token) q.mid us q.first.3)
    (follow-range p.mid hi (role.End ⊳ z ∷ xs) p.last) (says-finds a q.mid p.mid q.last))
says-finds (Says.if_then z {w = w} {us = us} {is = is} {xs = xs} n h a l) lo hi f =
    let p = part lo hi (first_tokens w us is) (role.End ⊳ z ∷ xs) f in
    let q = part lo p.mid (role.Begin ⊳ w ∷ us) is p.first in
    finds-choice lo p.mid hi _ q.first.2
    (finds-widen (suc w.token) q.mid p.mid p.mid (follow-range (suc w.token) q.mid us q.first.3) (omega arith)
    (says-finds a q.mid p.mid q.last))
    (finds-none p.mid hi (follow-range p.mid hi (role.End ⊳ z ∷ xs) p.last))
says-finds (Says.if_else y z {w = w} {us = us} {is = is} {ys = ys} {js = js} {xs = xs} n h a m b l) lo hi f =
    let p = part lo hi (second_tokens w y us is ys js) (role.End ⊳ z ∷ xs) f in
    let q = part lo p.mid (first_tokens w us is ++ role.Else ⊳ y ∷ ys) js p.first in
    let r = part lo q.mid (first_tokens w us is) (role.Else ⊳ y ∷ ys) q.first in
    let s = part lo r.mid (role.Begin ⊳ w ∷ us) is r.first in
    finds-choice lo r.mid hi _ s.first.2
    (finds-widen (suc w.token) s.mid r.mid r.mid (follow-range (suc w.token) s.mid us s.first.3) (omega arith)
    (says-finds a s.mid r.mid s.last))
    (finds-widen r.mid q.mid p.mid hi (follow-range r.mid q.mid (role.Else ⊳ y ∷ ys) r.last)
    (follow-range p.mid hi (role.End ⊳ z ∷ xs) p.last) (says-finds b q.mid p.mid q.last))
says-finds Says.no_folded lo hi f = finds-none lo hi f
says-finds (Says.more_folded {us = us} {vs = vs} a b) lo hi f =
    let p = part lo hi us vs f in
    finds-both lo p.mid hi (says-finds a lo p.mid p.first) (says-finds b p.mid hi p.last)
says-finds (Says.folded_plain z {us = us} {vs = vs} h a) lo hi f =
    let p = part lo hi (us ++ vs) (role.HeldEnd ⊳ z ∷ []) f in
    let q = part lo p.mid us vs p.first in
    finds-folded lo q.mid hi (finds-plain lo q.mid h q.first)
    (finds-widen q.mid q.mid p.mid hi (omega arith) (follow-range p.mid hi (role.HeldEnd ⊳ z ∷ []) p.last)
    (says-finds a q.mid p.mid q.last))
says-finds (Says.folded_region z {w = w} {us = us} {is = is} {r = r} i h a) lo hi f =
    let p = part lo hi (first_tokens w us is) (role.End ⊳ z ∷ []) f in
    let q = part lo p.mid (role.Begin ⊳ w ∷ us) is p.first in
    finds-region lo hi r _ q.first.2
    (finds-widen (suc w.token) q.mid p.mid hi (follow-range (suc w.token) q.mid us q.first.3)
    (follow-range p.mid hi (role.End ⊳ z ∷ []) p.last) (says-finds a q.mid p.mid q.last))
says-finds (Says.folded_then t z {w = w} {us = us} {cs = cs} {is = is} n h a b) lo hi f =
    let p = part lo hi (then_tokens w t us cs is) (role.End ⊳ z ∷ []) f in
    let q = part lo p.mid (condition_tokens w us cs) (role.Then ⊳ t ∷ is) p.first in
    let r = part lo q.mid (role.HeldBegin ⊳ w ∷ us) cs q.first in
    finds-if lo q.mid p.mid hi _ r.first.2
    (finds-widen (suc w.token) r.mid q.mid q.mid (follow-range (suc w.token) r.mid us r.first.3) (omega arith)
    (says-finds a r.mid q.mid r.last))
    (finds-widen q.mid (suc t.token) p.mid p.mid (omega (arith, q.last.2)) (omega arith)
    (says-finds b (suc t.token) p.mid q.last.3))
    (finds-none p.mid hi (follow-range p.mid hi (role.End ⊳ z ∷ []) p.last))
says-finds (Says.folded_else t y z {w = w} {us = us} {cs = cs} {is = is} {js = js} n h a b d) lo hi f =
    let p = part lo hi (then_tokens w t us cs is ++ role.Else ⊳ y ∷ js) (role.End ⊳ z ∷ []) f in
    let o = part lo p.mid (then_tokens w t us cs is) (role.Else ⊳ y ∷ js) p.first in
    let q = part lo o.mid (condition_tokens w us cs) (role.Then ⊳ t ∷ is) o.first in
    let r = part lo q.mid (role.HeldBegin ⊳ w ∷ us) cs q.first in
    finds-if lo q.mid o.mid hi _ r.first.2
    (finds-widen (suc w.token) r.mid q.mid q.mid (follow-range (suc w.token) r.mid us r.first.3) (omega arith)
    (says-finds a r.mid q.mid r.last))
    (finds-widen q.mid (suc t.token) o.mid o.mid (omega (arith, q.last.2)) (omega arith)
    (says-finds b (suc t.token) o.mid q.last.3))
    (finds-widen o.mid (suc y.token) p.mid hi (omega (arith, o.last.2))
    (follow-range p.mid hi (role.End ⊳ z ∷ []) p.last) (says-finds d (suc y.token) p.mid o.last.3))

-- of the tokens of a whole body
pub says-placed : {q : Part} {us : List Said} {c : Instrs} → Says q us c → (lo hi : ℕ) → Follow lo us hi → hi ≤ 2 ^ 32
    → IsPlaced c
says-placed {c = c} s lo hi f e =
    let found = says-finds s lo hi f in
    let R : Rows = found.rows in
    let stands : Found R R = record {
      heads = stands-all (λ h. h.token) R.heads hi e
          (rises-from (λ h. h.token) 0 lo hi R.heads (omega arith) found.rowed.heads.rises);
      uses = stands-all (λ u. u.token) R.uses hi e
          (rises-from (λ u. u.token) 0 lo hi R.uses (omega arith) found.rowed.uses.rises);
      ids = stands-all (λ i. i.token) R.ids hi e
          (rises-from (λ i. i.token) 0 lo hi R.ids (omega arith) found.rowed.ids.rises);
      labels = stands-all index_token R.labels hi e
          (rises-from index_token 0 lo hi R.labels (omega arith) found.rowed.labels.rises);
    } in
    subst (λ (Q : Rows). Throughout (PlainPlaced Q) (HeadPlaced Q) c) (sym (rows-are lo hi c R found.rowed))
    (found.found R stands)
