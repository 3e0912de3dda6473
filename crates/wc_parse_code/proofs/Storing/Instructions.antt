-- What kept tokens say is stored: each production adds its instructions, and their rows in the order of the text.
use Rattle.std.proofs.Common.{◌≡◌, ℕ, ◌+◌, ◌≤◌, ◌^◌, true, false, List, [], ◌∷◌, ◌++◌, length}
use Rattle.std.proofs.Common.{refl, sym, ap, ◌∙◌, subst, arith}
use Rattle.std.specs.Prelude.{max}
use Rattle.wc_body.specs.Standard.Nested.{nesting_limit, nesting, Code, ◌⧺◌}
use Rattle.wc_body.specs.Standard.Draft.{draft}
use Rattle.wc_body.specs.Stored.Rebuilt.{append-empty, append-assoc}
use Rattle.wc_syntax.specs.declared.role.Role.TheVariants as role
use Rattle.wc_surface.specs.Standard.Written.Instructions.{Plain, Instrs}
use Rattle.wc_parse_code.specs.declared.body_draft.BodyDraft.{BodyDraft}
use Rattle.wc_parse_code.specs.Standard.Tokens.{KeptToken}
use Rattle.wc_parse_code.specs.Standard.Productions.Tokens.{Said, ◌⊳◌}
use Rattle.wc_parse_code.specs.Standard.Productions.Plain.{IsPlain}
use Rattle.wc_parse_code.specs.Drafting.Following.{take_said}
use Rattle.wc_parse_code.specs.Stored.Rows.{Rows}
use Rattle.wc_parse_code.specs.Stored.Bodies.{Places, plain_as, code_as}
use Rattle.wc_parse_code.proofs.Storing.Ordered.Following.{Follow, follow-range, Parted, said-append}
use Rattle.wc_parse_code.proofs.Storing.Ordered.Rows.{◌⊕◌, no_rows, plain_rows, Rowed, rowed-none, rowed-widen}
use Rattle.wc_parse_code.proofs.Storing.Ordered.Rows.{rowed-append, rowed-swap, rowed-plain}
use Rattle.wc_parse_code.proofs.Storing.States.{State, standing, rows_added, added, added-twice, Fits}
use Rattle.wc_parse_code.proofs.Storing.States.{fits-first, fits-last, rows-twice}
use Rattle.wc_parse_code.proofs.Storing.Plain.{rows-none, said_as, plain-begun, held-begun, plain-said}
use Rattle.wc_parse_code.proofs.Storing.Ordered.Rising.{plain-rises}
use Rattle.wc_parse_code.proofs.Storing.Blocks.{plain-released}

-- the tokens add these instructions with these rows, wherever the rows are placed, and where so many may be open
pub record Adds (us : List Said) (c : Instrs) (R : Rows) : Type 0 where
  pub to : (places : Places) (d : BodyDraft) → Fits places (standing d) R
      → length (standing d).code.around + nesting c ≤ nesting_limit
      → standing (take_said d us) ≡ added places (standing d) R (code_as places c)

-- the tokens in this range add these instructions with their rows
pub record Stores (lo hi : ℕ) (us : List Said) (c : Instrs) : Type 0 where
  pub rows : Rows
  pub rowed : Rowed lo hi c rows
  pub adds : Adds us c rows

-- ---- instructions one behind the other

pub nesting-append : (c d : Instrs) → nesting (c ⧺ d) ≡ max (nesting c) (nesting d)
nesting-append Code.empty d = omega arith
nesting-append (Code.op p next) d = nesting-append next d
nesting-append (Code.region r h inside next) d = omega (arith, nesting-append next d)
nesting-append (Code.choice h first second next) d = omega (arith, nesting-append next d)

pub code-append : (places : Places) (c d : Instrs) → code_as places (c ⧺ d) ≡ code_as places c ⧺ code_as places d
code-append places Code.empty d = refl
code-append places (Code.op p next) d = ap (λ k. Code.op (plain_as places p) k) (code-append places next d)
code-append places (Code.region r h inside next) d =
    ap (λ k. Code.region r (places.head_at h.token) (code_as places inside) k) (code-append places next d)
code-append places (Code.choice h first second next) d =
    ap (λ k. Code.choice (places.head_at h.token) (code_as places first) (code_as places second) k)
    (code-append places next d)

-- the same behind what is known of the body
pub adds-at : {us : List Said} {c : Instrs} {R : Rows} → Adds us c R → (places : Places) (d : BodyDraft) (s : State)
    → standing d ≡ s → Fits places s R → length s.code.around + nesting c ≤ nesting_limit
    → standing (take_said d us) ≡ added places s R (code_as places c)
adds-at {c = c} {R = R} a places d s e p room =
    a.to places d (subst (λ (t : State). Fits places t R) (sym e) p)
    (subst (λ (t : State). length t.code.around + nesting c ≤ nesting_limit) (sym e) room)
    ∙ ap (λ (t : State). added places t R (code_as places c)) e

pub nothing-stored : (lo hi : ℕ) → lo ≤ hi → Stores lo hi [] Code.empty
nothing-stored lo hi e = record {
  rows = no_rows;
  rowed = rowed-none lo hi e;
  adds = record {
    to = λ places d p room.
        rows-none places (standing d)
        ∙ ap (λ k. record (rows_added places (standing d) no_rows) { code = draft (standing d).code.around k })
        (sym (append-empty (standing d).code.last));
  };
}

pub both-stored : (lo hi : ℕ) {us vs : List Said} {c d : Instrs} (f : Parted lo hi us vs) → Stores lo f.mid us c
    → Stores f.mid hi vs d → Stores lo hi (us ++ vs) (c ⧺ d)
both-stored lo hi {us = us} {vs = vs} {c = c} {d = d} f a b = record {
  rows = a.rows ⊕ b.rows;
  rowed = rowed-append lo f.mid hi a.rowed b.rowed;
  adds = record {
    to = λ places e p room.
        let s : State = standing e in
        let first = a.adds.to places e (fits-first places s a.rows b.rows p)
        (omega (arith, room, nesting-append c d)) in
        ap standing (said-append e us vs)
        ∙ adds-at b.adds places (take_said e us) (added places s a.rows (code_as places c)) first
        (fits-last places s a.rows b.rows p) (omega (arith, room, nesting-append c d))
        ∙ added-twice places s a.rows b.rows (code_as places c) (code_as places d)
        ∙ ap (λ k. added places s (a.rows ⊕ b.rows) k) (sym (code-append places c d));
  };
}

-- ---- instructions in which none is nested

pub plain-stored : (lo hi : ℕ) {us : List Said} {p : Plain} → Follow lo us hi → hi ≤ 2 ^ 32 → IsPlain role.Plain us p
    → Stores lo hi us (Code.op p Code.empty)
plain-stored lo hi {p = p} f less h = record {
  rows = plain_rows p;
  rowed = rowed-plain lo hi p (plain-rises lo hi h f);
  adds = record {
    to = λ places d fits room. ap standing (plain-begun h d) ∙ plain-said places false lo hi h f less d fits;
  };
}

pub folded-plain-stored : (lo hi : ℕ) (z : KeptToken) {us vs : List Said} {p : Plain} {c : Instrs}
    (f : Parted lo hi (us ++ vs) (role.HeldEnd ⊳ z ∷ [])) (g : Parted lo f.mid us vs) → hi ≤ 2 ^ 32
    → IsPlain role.HeldPlain us p → Stores g.mid f.mid vs c
    → Stores lo hi (us ++ vs ++ role.HeldEnd ⊳ z ∷ []) (c ⧺ Code.op p Code.empty)
folded-plain-stored lo hi z {us = us} {vs = vs} {p = p} {c = c} f g less h b =
    let last = follow-range f.mid hi (role.HeldEnd ⊳ z ∷ []) f.last in
    let middle = follow-range g.mid f.mid vs g.last in record {
      rows = plain_rows p ⊕ b.rows;
      rowed = rowed-swap lo g.mid hi (rowed-widen g.mid g.mid f.mid hi (omega arith) last b.rowed)
          (rowed-plain lo g.mid p (plain-rises lo g.mid h g.first));
      adds = record {
        to = λ places d fits room.
            let s : State = standing d in
            let i = plain_as places p in
            let k = code_as places c in
            let waits : State = said_as true (rows_added places s (plain_rows p)) i in
            let held = ap standing (held-begun h d)
            ∙ plain-said places true lo g.mid h g.first (omega (arith, middle, last, less)) d
            (fits-first places s (plain_rows p) b.rows fits) in
            let inside = adds-at b.adds places (take_said d us) waits held
            (fits-last places s (plain_rows p) b.rows fits)
            (omega (arith, room, nesting-append c (Code.op p Code.empty))) in
            ap standing
            (said-append d (us ++ vs) (role.HeldEnd ⊳ z ∷ [])
            ∙ ap (λ (x : BodyDraft). take_said x (role.HeldEnd ⊳ z ∷ [])) (said-append d us vs))
            ∙ plain-released (take_said (take_said d us) vs) z i s.held (ap (λ (t : State). t.held) inside)
            ∙ ap (λ (t : State). record t {
              code = draft t.code.around (t.code.last ⧺ Code.op i Code.empty);
              held = s.held;
            })
            inside
            ∙ ap (λ (t : State). record t {
              code = draft s.code.around ((s.code.last ⧺ k) ⧺ Code.op i Code.empty);
            }) (rows-twice places s (plain_rows p) b.rows)
            ∙ ap (λ k. record (rows_added places s (plain_rows p ⊕ b.rows)) { code = draft s.code.around k })
            (append-assoc s.code.last k (Code.op i Code.empty)
            ∙ ap (λ k. s.code.last ⧺ k) (sym (code-append places c (Code.op p Code.empty))));
      };
    }
