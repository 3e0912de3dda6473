-- Blocks, loops and ifs that are said are stored.
use Rattle.std.proofs.Common.{◌≡◌, ℕ, suc, ◌+◌, ◌≤◌, ◌^◌, List, [], ◌∷◌, ◌++◌, length}
use Rattle.std.proofs.Common.{Option, None, sym, ap, ◌∙◌, subst, append_assoc, append-nil, arith}
use Rattle.std.specs.Prelude.{max}
use Rattle.wc_ops.specs.declared.op.Op.TheVariants as op
use Rattle.wc_body.specs.Standard.Nested.{nesting_limit, nesting, Region, Code}
use Rattle.wc_body.specs.Standard.Draft.{in_region, in_then, in_else, Frame, closed}
use Rattle.wc_syntax.specs.declared.role.Role.TheVariants as role
use Rattle.wc_surface.specs.declared.instr.TextInstr.{TextInstr}
use Rattle.wc_surface.specs.declared.type_use.TypeUse.{TypeUse as StoredUse}
use Rattle.wc_surface.specs.Standard.Identifiers.{Identifier}
use Rattle.wc_surface.specs.Standard.Written.Indices.{Index}
use Rattle.wc_surface.specs.Standard.Written.Instructions.{BlockType, Head, Instrs}
use Rattle.wc_parse_code.specs.declared.body_draft.BodyDraft.{BodyDraft}
use Rattle.wc_parse_code.specs.Standard.Tokens.{KeptToken}
use Rattle.wc_parse_code.specs.Standard.Productions.Tokens.{Said, ◌⊳◌, NamesInstruction, IsId}
use Rattle.wc_parse_code.specs.Standard.Productions.Instructions.{IsRegion, IsHead, head}
use Rattle.wc_parse_code.specs.Drafting.Following.{take_said}
use Rattle.wc_parse_code.specs.Stored.Rows.{Rows, type_uses_in}
use Rattle.wc_parse_code.specs.Stored.Bodies.{Places, code_as}
use Rattle.wc_parse_code.proofs.Storing.Ordered.Following.{follow-range, Parted, said-append}
use Rattle.wc_parse_code.proofs.Storing.Ordered.Rows.{rows, ◌⊕◌, no_rows, head_rows, Rowed, rowed-none, rowed-widen}
use Rattle.wc_parse_code.proofs.Storing.Ordered.Rows.{rowed-region, rowed-choice}
use Rattle.wc_parse_code.proofs.Storing.States.{Stored, State, standing, rows_added, added, within, Fits}
use Rattle.wc_parse_code.proofs.Storing.States.{fits-first, fits-last}
use Rattle.wc_parse_code.proofs.Storing.Plain.{begun}
use Rattle.wc_parse_code.proofs.Storing.Blocks.{region-begun, if-begun, part-turned}
use Rattle.wc_parse_code.proofs.Storing.Blocks.{part-ended}
use Rattle.wc_parse_code.proofs.Storing.Instructions.{Adds, Stores, adds-at}

pub rows-assoc : (R Q S : Rows) → (R ⊕ Q) ⊕ S ≡ R ⊕ (Q ⊕ S)
rows-assoc R Q S = same (append_assoc R.heads Q.heads S.heads) (append_assoc R.uses Q.uses S.uses)
    (append_assoc R.ids Q.ids S.ids) (append_assoc R.labels Q.labels S.labels)
  where
    same : {hs hs' : List Head} {us us' : List StoredUse} {is is' : List Identifier} {ls ls' : List Index} → hs ≡ hs'
        → us ≡ us' → is ≡ is' → ls ≡ ls' → rows hs us is ls ≡ rows hs' us' is' ls'
    same a b c d = rw (a, b, c, d)

pub rows-end : (R : Rows) → R ⊕ no_rows ≡ R
rows-end R = same (append-nil R.heads) (append-nil R.uses) (append-nil R.ids) (append-nil R.labels)
  where
    same : {hs hs' : List Head} {us us' : List StoredUse} {is is' : List Identifier} {ls ls' : List Index} → hs ≡ hs'
        → us ≡ us' → is ≡ is' → ls ≡ ls' → rows hs us is ls ≡ rows hs' us' is' ls'
    same a b c d = rw (a, b, c, d)

module _ (places : Places) (w : KeptToken) (label : Option Identifier) (ty : BlockType) (more : List Head)
    (uses : List StoredUse) (ids : List Identifier) (labels : List Index) where
  -- the rows of the head with these identifiers, and what else there is behind it
  abbrev headed : Option Identifier → Option Identifier → Rows
  headed else_id end_id = rows (head w label ty else_id end_id ∷ more) uses ids labels

  -- the place of the head
  abbrev at : ℕ
  at = places.head_at w.token

  -- the identifiers make no difference to places
  pub refit : (s : State) (e f g h : Option Identifier) (R : Rows) → Fits places s (headed e f ⊕ R)
      → Fits places s (headed g h ⊕ R)
  refit s e f g h R p = record { heads = p.heads; uses = p.uses; ids = p.ids; labels = p.labels }

  -- the last part, and the end
  pub last-part : (d : BodyDraft) (z : KeptToken) (s : State) (f : Frame TextInstr ℕ) (R : Rows)
      (else_id end_id : Option Identifier) (is : List Said) {xs : List Said} {c : Instrs} → Adds is c R
      → IsId role.EndLabel xs end_id → standing d ≡ within places s (headed else_id None) f at
      → Fits places s (headed else_id end_id ⊕ R) → suc (length s.code.around) + nesting c ≤ nesting_limit
      → standing (take_said (take_said d is) (role.End ⊳ z ∷ xs))
      ≡ record (rows_added places s (headed else_id end_id ⊕ R)) {
        code = closed (f ∷ s.code.around) (code_as places c);
      }
  last-part d z s f R else_id end_id is {c = c} a l e p room =
      part-ended places w label ty (take_said d is) z s f (code_as places c) at else_id more uses ids labels R
      p.heads.0 l
      (adds-at a places d (within places s (headed else_id None) f at) e
      (fits-last places s (headed else_id None) R (refit s else_id end_id else_id None R p)) room)

  -- both parts, and the end
  pub two-parts : (d : BodyDraft) (y z : KeptToken) (s : State) (before : Stored) (R Q : Rows)
      (else_id end_id : Option Identifier) (is ys js : List Said) {xs : List Said} {c e : Instrs} → Adds is c R
      → IsId role.EndLabel ys else_id → Adds js e Q → IsId role.EndLabel xs end_id
      → standing d ≡ within places s (headed None None) (in_then before at) at
      → Fits places s ((headed else_id end_id ⊕ R) ⊕ Q)
      → suc (length s.code.around) + max (nesting c) (nesting e) ≤ nesting_limit
      → standing (take_said (take_said (take_said (take_said d is) (role.Else ⊳ y ∷ ys)) js) (role.End ⊳ z ∷ xs))
      ≡ record (rows_added places s ((headed else_id end_id ⊕ R) ⊕ Q)) {
        code = closed (in_else before at (code_as places c) ∷ s.code.around) (code_as places e);
      }
  two-parts d y z s before R Q else_id end_id is ys js {c = c} {e = e} a m b l begun p room =
      let first = fits-first places s (headed else_id end_id ⊕ R) Q p in
      let turned = part-turned places w label ty (take_said d is) y s before (code_as places c) at more uses ids labels
      R
      first.heads.0 m
      (adds-at a places d (within places s (headed None None) (in_then before at) at) begun
      (fits-last places s (headed None None) R (refit s else_id end_id None None R first))
      (omega (arith, room))) in
      let again : Fits places s ((headed else_id None ⊕ R) ⊕ Q) =
      record { heads = p.heads; uses = p.uses; ids = p.ids; labels = p.labels } in
      part-ended places w label ty (take_said (take_said (take_said d is) (role.Else ⊳ y ∷ ys)) js) z s
      (in_else before at (code_as places c)) (code_as places e) at else_id (more ++ R.heads) (uses ++ R.uses)
      (ids ++ R.ids) (labels ++ R.labels) Q p.heads.0 l
      (adds-at b places (take_said (take_said d is) (role.Else ⊳ y ∷ ys))
      (within places s (headed else_id None ⊕ R) (in_else before at (code_as places c)) at) turned
      (fits-last places s (headed else_id None ⊕ R) Q again) (omega (arith, room)))

-- ---- unfolded ones

-- the tokens of a block up to its last part
abbrev pub first_tokens : KeptToken → List Said → List Said → List Said
first_tokens w us is = (role.Begin ⊳ w ∷ us) ++ is

-- a block, a loop, or an if with one part, once its head is said
one-part : (places : Places) (d : BodyDraft) (w : KeptToken) (label end_id : Option Identifier) (ty : BlockType)
    (z : KeptToken) (f : Frame TextInstr ℕ) (us is xs : List Said) {c : Instrs} {R : Rows} → Adds is c R
    → IsId role.EndLabel xs end_id
    → standing (take_said d (role.Begin ⊳ w ∷ us))
    ≡ within places (standing d) (head_rows (head w label ty None None)) f (places.head_at w.token)
    → Fits places (standing d) (head_rows (head w label ty None end_id) ⊕ R)
    → suc (length (standing d).code.around) + nesting c ≤ nesting_limit
    → standing (take_said d (first_tokens w us is ++ role.End ⊳ z ∷ xs))
    ≡ record (rows_added places (standing d) (head_rows (head w label ty None end_id) ⊕ R)) {
      code = closed (f ∷ (standing d).code.around) (code_as places c);
    }
one-part places d w label end_id ty z f us is xs {R = R} a l e p room =
    ap standing
    (said-append d (first_tokens w us is) (role.End ⊳ z ∷ xs)
    ∙ ap (λ (x : BodyDraft). take_said x (role.End ⊳ z ∷ xs)) (said-append d (role.Begin ⊳ w ∷ us) is))
    ∙ last-part places w label ty [] (type_uses_in w.token ty) [] [] (take_said d (role.Begin ⊳ w ∷ us)) z (standing d)
    f R
    None end_id is a l e p room

pub region-stored : (lo hi : ℕ) (z w : KeptToken) (us is xs : List Said) {r : Region}
    {label end_id : Option Identifier} {ty : BlockType} {c : Instrs}
    (f : Parted lo hi (first_tokens w us is) (role.End ⊳ z ∷ xs)) (g : Parted lo f.mid (role.Begin ⊳ w ∷ us) is)
    → hi ≤ 2 ^ 32 → IsRegion w r → IsHead us label ty → Stores g.mid f.mid is c → IsId role.EndLabel xs end_id
    → Stores lo hi (first_tokens w us is ++ role.End ⊳ z ∷ xs)
    (Code.region r (head w label ty None end_id) c Code.empty)
region-stored lo hi z w us is xs {r = r} {label = label} {end_id = end_id} {ty = ty} {c = c} f g less n i a l =
    let h : Head = head w label ty None end_id in
    let front = follow-range (suc w.token) g.mid us g.first.3 in
    let middle = follow-range g.mid f.mid is g.last in
    let behind = follow-range f.mid hi (role.End ⊳ z ∷ xs) f.last in record {
      rows = head_rows h ⊕ a.rows;
      rowed = rowed-region lo hi r h g.first.2 (rowed-widen (suc w.token) g.mid f.mid hi front behind a.rowed);
      adds = record {
        to = λ places d p room.
            let s : State = standing d in
            let q = refit places w label ty [] (type_uses_in w.token ty) [] [] s None end_id None None a.rows p in
            one-part places d w label end_id ty z (in_region s.code.last r (places.head_at w.token)) us is xs a.adds l
            (region-begun places (suc w.token) g.mid n i g.first.3 (omega (arith, less, middle, behind)) d
            (omega (arith, room)) (fits-first places s (head_rows (head w label ty None None)) a.rows q))
            p (omega (arith, room));
      };
    }

pub if-stored : (lo hi : ℕ) (z w : KeptToken) (us is xs : List Said) {label end_id : Option Identifier}
    {ty : BlockType} {c : Instrs} (f : Parted lo hi (first_tokens w us is) (role.End ⊳ z ∷ xs))
    (g : Parted lo f.mid (role.Begin ⊳ w ∷ us) is) → hi ≤ 2 ^ 32 → NamesInstruction w op.If → IsHead us label ty
    → Stores g.mid f.mid is c → IsId role.EndLabel xs end_id
    → Stores lo hi (first_tokens w us is ++ role.End ⊳ z ∷ xs)
    (Code.choice (head w label ty None end_id) c Code.empty Code.empty)
if-stored lo hi z w us is xs {label = label} {end_id = end_id} {ty = ty} {c = c} f g less n i a l =
    let h : Head = head w label ty None end_id in
    let front = follow-range (suc w.token) g.mid us g.first.3 in
    let middle = follow-range g.mid f.mid is g.last in
    let behind = follow-range f.mid hi (role.End ⊳ z ∷ xs) f.last in record {
      rows = head_rows h ⊕ a.rows;
      rowed = subst (λ (R : Rows). Rowed lo hi (Code.choice h c Code.empty Code.empty) (head_rows h ⊕ R))
          (rows-end a.rows)
          (rowed-choice lo f.mid hi h g.first.2
          (rowed-widen (suc w.token) g.mid f.mid f.mid front (omega arith) a.rowed)
          (rowed-none f.mid hi behind));
      adds = record {
        to = λ places d p room.
            let s : State = standing d in
            let q = refit places w label ty [] (type_uses_in w.token ty) [] [] s None end_id None None a.rows p in
            one-part places d w label end_id ty z (in_then s.code.last (places.head_at w.token)) us is xs a.adds l
            (if-begun places (suc w.token) g.mid w n i g.first.3 (omega (arith, less, middle, behind)) d
            (omega (arith, room)) (fits-first places s (head_rows (head w label ty None None)) a.rows q))
            p (omega (arith, room));
      };
    }

-- its tokens up to the end of its second part
abbrev pub second_tokens : KeptToken → KeptToken → List Said → List Said → List Said → List Said → List Said
second_tokens w y us is ys js = (first_tokens w us is ++ role.Else ⊳ y ∷ ys) ++ js

pub if-else-stored : (lo hi : ℕ) (y z w : KeptToken) (us is ys js xs : List Said)
    {label else_id end_id : Option Identifier} {ty : BlockType} {c e : Instrs}
    (f : Parted lo hi (second_tokens w y us is ys js) (role.End ⊳ z ∷ xs))
    (g : Parted lo f.mid (first_tokens w us is ++ role.Else ⊳ y ∷ ys) js)
    (h : Parted lo g.mid (first_tokens w us is) (role.Else ⊳ y ∷ ys))
    (i : Parted lo h.mid (role.Begin ⊳ w ∷ us) is) → hi ≤ 2 ^ 32 → NamesInstruction w op.If → IsHead us label ty
    → Stores i.mid h.mid is c → IsId role.EndLabel ys else_id → Stores g.mid f.mid js e → IsId role.EndLabel xs end_id
    → Stores lo hi (second_tokens w y us is ys js ++ role.End ⊳ z ∷ xs)
    (Code.choice (head w label ty else_id end_id) c e Code.empty)
if-else-stored lo hi y z w us is ys js xs {label = label} {else_id = else_id} {end_id = end_id} {ty = ty} {c = c}
    {e = e} f g h i less n t a m b l =
    let x : Head = head w label ty else_id end_id in
    let front = follow-range (suc w.token) i.mid us i.first.3 in
    let first = follow-range i.mid h.mid is i.last in
    let turn = follow-range h.mid g.mid (role.Else ⊳ y ∷ ys) h.last in
    let second = follow-range g.mid f.mid js g.last in
    let behind = follow-range f.mid hi (role.End ⊳ z ∷ xs) f.last in record {
      rows = head_rows x ⊕ (a.rows ⊕ b.rows);
      rowed = rowed-choice lo h.mid hi x i.first.2
          (rowed-widen (suc w.token) i.mid h.mid h.mid front (omega arith) a.rowed)
          (rowed-widen h.mid g.mid f.mid hi turn behind b.rowed);
      adds = record {
        to = λ places d p room.
            let s : State = standing d in
            let d1 : BodyDraft = take_said d (role.Begin ⊳ w ∷ us) in
            let all = subst (λ (R : Rows). Fits places s R) (sym (rows-assoc (head_rows x) a.rows b.rows)) p in
            let q = refit places w label ty [] (type_uses_in w.token ty) [] [] s else_id end_id None None a.rows
            (fits-first places s (head_rows x ⊕ a.rows) b.rows all) in
            ap standing
            (said-append d (second_tokens w y us is ys js) (role.End ⊳ z ∷ xs)
            ∙ ap (λ (k : BodyDraft). take_said k (role.End ⊳ z ∷ xs))
            (said-append d (first_tokens w us is ++ role.Else ⊳ y ∷ ys) js
            ∙ ap (λ (k : BodyDraft). take_said k js)
            (said-append d (first_tokens w us is) (role.Else ⊳ y ∷ ys)
            ∙ ap (λ (k : BodyDraft). take_said k (role.Else ⊳ y ∷ ys)) (said-append d (role.Begin ⊳ w ∷ us) is))))
            ∙ two-parts places w label ty [] (type_uses_in w.token ty) [] [] d1 y z s s.code.last a.rows b.rows
            else_id end_id is ys js a.adds m b.adds l
            (if-begun places (suc w.token) i.mid w n t i.first.3 (omega (arith, less, first, turn, second, behind)) d
            (omega (arith, room)) (fits-first places s (head_rows (head w label ty None None)) a.rows q))
            all (omega (arith, room))
            ∙ ap (λ (R : Rows). added places s R
            (code_as places (Code.choice x c e Code.empty))) (rows-assoc (head_rows x) a.rows b.rows);
      };
    }
