-- What a body has so far, once nothing can follow the last name, and what instructions add to it.
use Rattle.std.proofs.Common.{◌≡◌, ℕ, ◌+◌, List, ◌∷◌, ◌++◌, length, sym, ap, ◌∙◌, append_assoc}
use Rattle.std.specs.Prelude.{map}
use Rattle.std.proofs.lemmas.List.{length-append, length-map, map-append}
use Rattle.wc_body.specs.Standard.Nested.{Code, empty, ◌⧺◌}
use Rattle.wc_body.specs.Standard.Draft.{Frame, Draft, draft}
use Rattle.wc_body.specs.Stored.Rebuilt.{append-assoc}
use Rattle.wc_surface.specs.declared.instr.TextInstr.{TextInstr}
use Rattle.wc_surface.specs.declared.instr.Operand.{Operand}
use Rattle.wc_surface.specs.declared.head.Head.{Head as StoredHead}
use Rattle.wc_surface.specs.declared.type_use.TypeUse.{TypeUse as StoredUse}
use Rattle.wc_surface.specs.Standard.Identifiers.{Identifier}
use Rattle.wc_parse_code.specs.declared.held.Held.{Held}
use Rattle.wc_parse_code.specs.declared.body_draft.BodyDraft.{BodyDraft}
use Rattle.wc_parse_code.specs.Drafting.Saying.{settled}
use Rattle.wc_parse_code.specs.Stored.Rows.{Rows, index_token}
use Rattle.wc_parse_code.specs.Stored.Bodies.{Places, operand_as, head_as}
use Rattle.wc_parse_code.proofs.Storing.Ordered.Placing.{Placed, placed-first, placed-last}
use Rattle.wc_parse_code.proofs.Storing.Ordered.Rows.{◌⊕◌}

-- instructions as they are stored
abbrev pub Stored : Type 0
Stored = Code TextInstr ℕ

-- instructions, their rows, what waits, and the places of the heads of what is open
pub record State : Type 0 where
  pub code : Draft TextInstr ℕ
  pub heads : List StoredHead
  pub uses : List StoredUse
  pub ids : List Identifier
  pub labels : List Operand
  pub held : List Held
  pub blocks : List ℕ

-- what a body has, but for its last name
abbrev pub state_of : BodyDraft → State
state_of d = record {
  code = d.code;
  heads = d.heads;
  uses = d.uses;
  ids = d.ids;
  labels = d.labels;
  held = d.held;
  blocks = d.blocks;
}

-- the same once nothing can follow that
abbrev pub standing : BodyDraft → State
standing d = state_of (settled d)

-- these rows behind those that are there
abbrev pub rows_added : Places → State → Rows → State
rows_added places s R = record s {
  heads = s.heads ++ map (head_as places) R.heads;
  uses = s.uses ++ R.uses;
  ids = s.ids ++ R.ids;
  labels = s.labels ++ map (operand_as places) R.labels;
}

-- these instructions behind those that are there
abbrev pub code_added : State → Stored → State
code_added s c = record s { code = draft s.code.around (s.code.last ⧺ c) }

-- both
abbrev pub added : Places → State → Rows → Stored → State
added places s R c = code_added (rows_added places s R) c

-- this frame around what comes, whose head has this place, and these rows
abbrev pub within : Places → State → Rows → Frame TextInstr ℕ → ℕ → State
within places s R f h =
    record (rows_added places s R) { code = draft (f ∷ s.code.around) empty; blocks = h ∷ s.blocks }

-- the rows stand at their places, of which the first are these
pub record FitsFrom (places : Places) (head used id label : ℕ) (R : Rows) : Type 0 where
  pub heads : Placed places.head_at (λ h. h.token) head R.heads
  pub uses : Placed places.use_at (λ u. u.token) used R.uses
  pub ids : Placed places.id_at (λ i. i.token) id R.ids
  pub labels : Placed places.label_at index_token label R.labels

-- the same behind those that are there
abbrev pub Fits : Places → State → Rows → Type 0
Fits places s R = FitsFrom places (length s.heads) (length s.uses) (length s.ids) (length s.labels) R

-- ---- one behind the other

-- a state of these
abbrev pub state : Draft TextInstr ℕ → List StoredHead → List StoredUse → List Identifier → List Operand → List Held
    → List ℕ → State
state code heads uses ids labels held blocks = record {
  code = code;
  heads = heads;
  uses = uses;
  ids = ids;
  labels = labels;
  held = held;
  blocks = blocks;
}

pub same-rows : {code : Draft TextInstr ℕ} {hs hs' : List StoredHead} {us us' : List StoredUse}
    {is is' : List Identifier} {ls ls' : List Operand} {held : List Held} {blocks : List ℕ}
    → hs ≡ hs' → us ≡ us' → is ≡ is' → ls ≡ ls'
    → state code hs us is ls held blocks ≡ state code hs' us' is' ls' held blocks
same-rows a b c d = rw (a, b, c, d)

mapped-twice : {X Y : Type 0} (f : X → Y) (ys : List Y) (ms bs : List X)
    → (ys ++ map f ms) ++ map f bs ≡ ys ++ map f (ms ++ bs)
mapped-twice f ys ms bs =
    append_assoc ys (map f ms) (map f bs) ∙ ap (λ zs. ys ++ zs) (sym (map-append f ms bs))

pub rows-twice : (places : Places) (s : State) (R Q : Rows)
    → rows_added places (rows_added places s R) Q ≡ rows_added places s (R ⊕ Q)
rows-twice places s R Q = same-rows
    (mapped-twice (head_as places) s.heads R.heads Q.heads)
    (append_assoc s.uses R.uses Q.uses)
    (append_assoc s.ids R.ids Q.ids)
    (mapped-twice (operand_as places) s.labels R.labels Q.labels)

pub added-twice : (places : Places) (s : State) (R Q : Rows) (c d : Stored)
    → added places (added places s R c) Q d ≡ added places s (R ⊕ Q) (c ⧺ d)
added-twice places s R Q c d =
    ap (λ (t : State). code_added (code_added t c) d) (rows-twice places s R Q)
    ∙ ap (λ (last : Stored). record (rows_added places s (R ⊕ Q)) { code = draft s.code.around last })
    (append-assoc s.code.last c d)

pub fits-first : (places : Places) (s : State) (R Q : Rows) → Fits places s (R ⊕ Q) → Fits places s R
fits-first places s R Q h = record {
  heads = placed-first (λ h. h.token) places.head_at (length s.heads) R.heads Q.heads h.heads;
  uses = placed-first (λ u. u.token) places.use_at (length s.uses) R.uses Q.uses h.uses;
  ids = placed-first (λ i. i.token) places.id_at (length s.ids) R.ids Q.ids h.ids;
  labels = placed-first index_token places.label_at (length s.labels) R.labels Q.labels h.labels;
}

longer : {X Y : Type 0} (f : X → Y) (ys : List Y) (xs : List X) → length (ys ++ map f xs) ≡ length ys + length xs
longer f ys xs = length-append ys (map f xs) ∙ ap (λ (n : ℕ). length ys + n) (length-map xs f)

pub fits-last : (places : Places) (s : State) (R Q : Rows) → Fits places s (R ⊕ Q)
    → Fits places (rows_added places s R) Q
fits-last places s R Q h = record {
  heads = placed-last (λ h. h.token) places.head_at (length s.heads) _ R.heads Q.heads
      (longer (head_as places) s.heads R.heads) h.heads;
  uses = placed-last (λ u. u.token) places.use_at (length s.uses) _ R.uses Q.uses (length-append s.uses R.uses) h.uses;
  ids = placed-last (λ i. i.token) places.id_at (length s.ids) _ R.ids Q.ids (length-append s.ids R.ids) h.ids;
  labels = placed-last index_token places.label_at (length s.labels) _ R.labels Q.labels
      (longer (operand_as places) s.labels R.labels) h.labels;
}
