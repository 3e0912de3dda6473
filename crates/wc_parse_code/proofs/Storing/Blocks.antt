-- Where a block, a loop or an if begins, turns and ends, once it is said.
use Rattle.std.proofs.Common.{◌≡◌, ℕ, ◌≤◌, ◌<◌, ◌^◌, Bool, List, [], ◌∷◌, ◌++◌, length, Option, Some, None}
use Rattle.std.proofs.Common.{refl, sym, ap, ◌∙◌}
use Rattle.std.specs.Prelude.{map, if◌then◌else◌}
use Rattle.std.proofs.lemmas.Bool.{lt-ltb}
use Rattle.wc_ops.specs.declared.op.Op.TheVariants as op
use Rattle.wc_body.specs.declared.entry.Kind.{Kind}
use Rattle.wc_body.specs.declared.entry.Kind.TheVariants as kind
use Rattle.wc_body.specs.Standard.Nested.{nesting_limit, Region, empty, plain}
use Rattle.wc_body.specs.Standard.Draft.{Frame, in_region, in_then, in_else, Draft, draft, step, closed, turned}
use Rattle.wc_syntax.specs.declared.role.Role.TheVariants as role
use Rattle.wc_symbols.specs.declared.symbol.Value.{Value}
use Rattle.wc_surface.specs.declared.instr.TextInstr.{TextInstr}
use Rattle.wc_surface.specs.declared.head.Head.{Head as StoredHead}
use Rattle.wc_surface.specs.declared.type_use.TypeUse.{TypeUse as StoredUse}
use Rattle.wc_surface.specs.Standard.Identifiers.{Identifier}
use Rattle.wc_surface.specs.Standard.Marks.{begin_of}
use Rattle.wc_surface.specs.Standard.Written.Indices.{Index}
use Rattle.wc_surface.specs.Standard.Written.Instructions.{BlockType, Head}
use Rattle.wc_parse_code.specs.declared.held.Held.{Held}
use Rattle.wc_parse_code.specs.declared.held.Held.TheVariants as held
use Rattle.wc_parse_code.specs.declared.body_draft.BodyDraft.{BodyDraft}
use Rattle.wc_parse_code.specs.Standard.Tokens.{KeptToken}
use Rattle.wc_parse_code.specs.Drafting.Words.{place_behind}
use Rattle.wc_parse_code.specs.Drafting.Heads.{with_else_id, with_end_id}
use Rattle.wc_parse_code.specs.Drafting.Saying.{begun_in, begin_block, release_by, settled}
use Rattle.wc_parse_code.specs.Drafting.Opening.{await_head, begin_by, turn_by, end_by}
use Rattle.wc_parse_code.specs.Drafting.Taking.{take}
use Rattle.wc_parse_code.specs.Standard.Productions.Tokens.{Said, ◌⊳◌, NamesInstruction, IsId, bytes}
use Rattle.wc_parse_code.specs.Standard.Productions.Instructions.{IsRegion, block_word, loop_word, IsHead, head}
use Rattle.wc_parse_code.specs.Drafting.Following.{take_said}
use Rattle.wc_parse_code.specs.Stored.Rows.{Rows}
use Rattle.wc_parse_code.specs.Stored.Bodies.{Places, head_as}
use Rattle.wc_parse_code.proofs.Storing.Ordered.Following.{Follow}
use Rattle.wc_parse_code.proofs.Storing.Words.{behind}
use Rattle.wc_parse_code.proofs.Storing.Ordered.Rows.{rows, ◌⊕◌, head_rows}
use Rattle.wc_parse_code.proofs.Storing.States.{Stored, State, state_of, standing, rows_added, added, within}
use Rattle.wc_parse_code.proofs.Storing.States.{rows-twice, Fits}
use Rattle.wc_parse_code.proofs.Storing.Heads.{head-said}

-- ---- where one begins

begun-code : (code : Draft TextInstr ℕ) (k : Kind) (h : ℕ) → length code.around < nesting_limit
    → begun_in code k h ≡ step code (begin_of k h)
begun-code code k h less =
    ap (λ (b : Bool). if b then step code (begin_of k h) else code) (lt-ltb (length code.around) nesting_limit less)

-- a head that is said behind the word, with its place
begun-head : (places : Places) (lo hi : ℕ) (k : Kind) (w : KeptToken) {us : List Said} {label : Option Identifier}
    {ty : BlockType} → IsHead us label ty → Follow lo us hi → hi ≤ 2 ^ 32 → (d : BodyDraft)
    → length d.code.around < nesting_limit → Fits places (state_of d) (head_rows (head w label ty None None))
    → standing (take_said (await_head w.token (begin_block d k (place_behind d.heads))) us)
    ≡ record (rows_added places (state_of d) (head_rows (head w label ty None None))) {
      code = step d.code (begin_of k (places.head_at w.token));
      blocks = places.head_at w.token ∷ d.blocks;
    }
begun-head places lo hi k w {us = us} {label = label} {ty = ty} i f room d less p =
    ap (λ (h : ℕ). standing (take_said (await_head w.token (begin_block d k h)) us))
    (behind d.heads p.heads.1 ∙ sym p.heads.0)
    ∙ head-said places lo hi w i f room (begin_block d k (places.head_at w.token)) p
    ∙ ap (λ (code : Draft TextInstr ℕ).
    record (rows_added places (state_of d) (head_rows (head w label ty None None))) {
      code = code;
      blocks = places.head_at w.token ∷ d.blocks;
    }) (begun-code d.code k (places.head_at w.token) less)

pub region-begun : (places : Places) (lo hi : ℕ) {w : KeptToken} {r : Region} {us : List Said}
    {label : Option Identifier} {ty : BlockType} → IsRegion w r → IsHead us label ty → Follow lo us hi → hi ≤ 2 ^ 32
    → (d : BodyDraft) → length (standing d).code.around < nesting_limit
    → Fits places (standing d) (head_rows (head w label ty None None))
    → standing (take_said d (role.Begin ⊳ w ∷ us))
    ≡ within places (standing d) (head_rows (head w label ty None None))
    (in_region (standing d).code.last r (places.head_at w.token)) (places.head_at w.token)
region-begun places lo hi {w = w} {us = us} (block_word n) i f room d less p =
    ap (λ (v : Value). standing (take_said (begin_by v w.token (settled d)) us)) n
    ∙ begun-head places lo hi kind.Block w i f room (settled d) less p
region-begun places lo hi {w = w} {us = us} (loop_word n) i f room d less p =
    ap (λ (v : Value). standing (take_said (begin_by v w.token (settled d)) us)) n
    ∙ begun-head places lo hi kind.Loop w i f room (settled d) less p

pub if-begun : (places : Places) (lo hi : ℕ) (w : KeptToken) {us : List Said} {label : Option Identifier}
    {ty : BlockType} → NamesInstruction w op.If → IsHead us label ty → Follow lo us hi → hi ≤ 2 ^ 32 → (d : BodyDraft)
    → length (standing d).code.around < nesting_limit
    → Fits places (standing d) (head_rows (head w label ty None None))
    → standing (take_said d (role.Begin ⊳ w ∷ us))
    ≡ within places (standing d) (head_rows (head w label ty None None))
    (in_then (standing d).code.last (places.head_at w.token)) (places.head_at w.token)
if-begun places lo hi w {us = us} n i f room d less p =
    ap (λ (v : Value). standing (take_said (begin_by v w.token (settled d)) us)) n
    ∙ begun-head places lo hi kind.If w i f room (settled d) less p

-- an if waits for its condition
pub if-held : (places : Places) (lo hi : ℕ) (w : KeptToken) {us : List Said} {label : Option Identifier}
    {ty : BlockType} → IsHead us label ty → Follow lo us hi → hi ≤ 2 ^ 32 → (d : BodyDraft)
    → Fits places (standing d) (head_rows (head w label ty None None))
    → standing (take_said d (role.HeldBegin ⊳ w ∷ us))
    ≡ record (rows_added places (standing d) (head_rows (head w label ty None None))) {
      held = held.If (places.head_at w.token) ∷ (standing d).held;
    }
if-held places lo hi w {us = us} i f room d p =
    ap (λ (h : ℕ).
    standing (take_said (await_head w.token (record (settled d) { held = held.If h ∷ (settled d).held }))
    us)) (behind (settled d).heads p.heads.1 ∙ sym p.heads.0)
    ∙ head-said places lo hi w i f room
    (record (settled d) { held = held.If (places.head_at w.token) ∷ (settled d).held }) p

-- its condition ends
pub if-released : (d : BodyDraft) (t : KeptToken) (h : ℕ) (hs : List Held) → (standing d).held ≡ held.If h ∷ hs
    → length (standing d).code.around < nesting_limit
    → standing (take d role.Then t)
    ≡ record (standing d) {
      code = draft (in_then (standing d).code.last h ∷ (standing d).code.around) empty;
      held = hs;
      blocks = h ∷ (standing d).blocks;
    }
if-released d t h hs e less =
    ap (λ (xs : List Held). standing (release_by xs (settled d))) e
    ∙ ap (λ (code : Draft TextInstr ℕ).
    record (standing d) { code = code; held = hs; blocks = h ∷ (standing d).blocks })
    (begun-code (settled d).code kind.If h less)

-- operands end, and their instruction stands
pub plain-released : (d : BodyDraft) (z : KeptToken) (i : TextInstr) (hs : List Held)
    → (standing d).held ≡ held.Plain i ∷ hs
    → standing (take d role.HeldEnd z)
    ≡ record (standing d) { code = step (standing d).code (plain i); held = hs }
plain-released d z i hs e = ap (λ (xs : List Held). standing (release_by xs (settled d))) e

-- ---- where one turns and ends

-- the identifier behind `else`, in the head of this place
abbrev else_set : Option Identifier → ℕ → List StoredHead → List StoredHead
else_set None h hs = hs
else_set (Some i) h hs = with_else_id hs h i

-- the identifier behind `end`, in the head of this place
abbrev end_set : Option Identifier → ℕ → List StoredHead → List StoredHead
end_set None h hs = hs
end_set (Some i) h hs = with_end_id hs h i

-- the innermost one turns
abbrev turns : Option Identifier → ℕ → State → State
turns i h s = record s { code = turned s.code.around s.code.last; heads = else_set i h s.heads }

-- the innermost one ends, and these stay open
abbrev ends : Option Identifier → ℕ → List ℕ → State → State
ends i h hs s = record s { code = closed s.code.around s.code.last; blocks = hs; heads = end_set i h s.heads }

turn-said : (d : BodyDraft) (y : KeptToken) (h : ℕ) (hs : List ℕ) {ys : List Said} {i : Option Identifier}
    → (standing d).blocks ≡ h ∷ hs → IsId role.EndLabel ys i
    → standing (take_said d (role.Else ⊳ y ∷ ys)) ≡ turns i h (standing d)
turn-said d y h hs {ys = ys} e l =
    ap (λ (xs : List ℕ). standing (take_said (turn_by xs (settled d)) ys)) e ∙ label l
  where
    label : {ys : List Said} {i : Option Identifier} → IsId role.EndLabel ys i
        → standing (take_said (turn_by (h ∷ hs) (settled d)) ys) ≡ turns i h (standing d)
    label IsId.absent = refl
    label (IsId.there (bytes k)) = refl

end-said : (d : BodyDraft) (z : KeptToken) (h : ℕ) (hs : List ℕ) {xs : List Said} {i : Option Identifier}
    → (standing d).blocks ≡ h ∷ hs → IsId role.EndLabel xs i
    → standing (take_said d (role.End ⊳ z ∷ xs)) ≡ ends i h hs (standing d)
end-said d z h hs {xs = xs} e l =
    ap (λ (ys : List ℕ). standing (take_said (end_by ys (settled d)) xs)) e ∙ label l
  where
    label : {xs : List Said} {i : Option Identifier} → IsId role.EndLabel xs i
        → standing (take_said (end_by (h ∷ hs) (settled d)) xs) ≡ ends i h hs (standing d)
    label IsId.absent = refl
    label (IsId.there (bytes k)) = refl

-- the head behind these
else-at : (hs : List StoredHead) (x : StoredHead) (more : List StoredHead) (i : Identifier)
    → with_else_id (hs ++ x ∷ more) (length hs) i ≡ hs ++ record x { else_id = Some i } ∷ more
else-at [] x more i = refl
else-at (h ∷ hs) x more i = ap (λ (ys : List StoredHead). h ∷ ys) (else-at hs x more i)

end-at : (hs : List StoredHead) (x : StoredHead) (more : List StoredHead) (i : Identifier)
    → with_end_id (hs ++ x ∷ more) (length hs) i ≡ hs ++ record x { end_id = Some i } ∷ more
end-at [] x more i = refl
end-at (h ∷ hs) x more i = ap (λ (ys : List StoredHead). h ∷ ys) (end-at hs x more i)

module _ (places : Places) (w : KeptToken) (label : Option Identifier) (ty : BlockType) where
  else-head : (h : ℕ) (hs : List StoredHead) (more : List Head) (i : Option Identifier) → h ≡ length hs
      → else_set i h (hs ++ map (head_as places) (head w label ty None None ∷ more))
      ≡ hs ++ map (head_as places) (head w label ty i None ∷ more)
  else-head h hs more None e = refl
  else-head h hs more (Some i) e =
      ap (λ (n : ℕ). with_else_id (hs ++ map (head_as places) (head w label ty None None ∷ more)) n i) e
      ∙ else-at hs (head_as places (head w label ty None None)) (map (head_as places) more) i

  end-head : (h : ℕ) (hs : List StoredHead) (more : List Head) (else_id i : Option Identifier) → h ≡ length hs
      → end_set i h (hs ++ map (head_as places) (head w label ty else_id None ∷ more))
      ≡ hs ++ map (head_as places) (head w label ty else_id i ∷ more)
  end-head h hs more else_id None e = refl
  end-head h hs more else_id (Some i) e =
      ap (λ (n : ℕ). with_end_id (hs ++ map (head_as places) (head w label ty else_id None ∷ more)) n i) e
      ∙ end-at hs (head_as places (head w label ty else_id None)) (map (head_as places) more) i

  -- the first part ends, and the second begins
  pub part-turned : (d : BodyDraft) (y : KeptToken) (s : State) (before c : Stored) (h : ℕ) (more : List Head)
      (uses : List StoredUse) (ids : List Identifier) (labels : List Index) (R : Rows) {ys : List Said}
      {i : Option Identifier} → h ≡ length s.heads → IsId role.EndLabel ys i
      → standing d ≡ added places
      (within places s (rows (head w label ty None None ∷ more) uses ids labels) (in_then before h) h) R c
      → standing (take_said d (role.Else ⊳ y ∷ ys))
      ≡ within places s (rows (head w label ty i None ∷ more) uses ids labels ⊕ R) (in_else before h c) h
  part-turned d y s before c h more uses ids labels R {i = i} e l is =
      turn-said d y h s.blocks (ap (λ (t : State). t.blocks) is) l
      ∙ ap (turns i h) is
      ∙ ap (λ (t : State). record t {
        code = draft (in_else before h c ∷ s.code.around) empty;
        heads = else_set i h t.heads;
        blocks = h ∷ s.blocks;
      }) (rows-twice places s (rows (head w label ty None None ∷ more) uses ids labels) R)
      ∙ ap (λ (hs : List StoredHead).
      record (within places s (rows (head w label ty i None ∷ more) uses ids labels ⊕ R) (in_else before h c) h) {
        heads = hs;
      }) (else-head h s.heads (more ++ R.heads) i e)

  -- the last part ends
  pub part-ended : (d : BodyDraft) (z : KeptToken) (s : State) (f : Frame TextInstr ℕ) (c : Stored) (h : ℕ)
      (else_id : Option Identifier) (more : List Head) (uses : List StoredUse) (ids : List Identifier)
      (labels : List Index) (R : Rows) {xs : List Said} {i : Option Identifier} → h ≡ length s.heads
      → IsId role.EndLabel xs i
      → standing d ≡ added places
      (within places s (rows (head w label ty else_id None ∷ more) uses ids labels) f h) R c
      → standing (take_said d (role.End ⊳ z ∷ xs))
      ≡ record (rows_added places s (rows (head w label ty else_id i ∷ more) uses ids labels ⊕ R)) {
        code = closed (f ∷ s.code.around) c;
      }
  part-ended d z s f c h else_id more uses ids labels R {i = i} e l is =
      end-said d z h s.blocks (ap (λ (t : State). t.blocks) is) l
      ∙ ap (ends i h s.blocks) is
      ∙ ap (λ (t : State). record t {
        code = closed (f ∷ s.code.around) c;
        heads = end_set i h t.heads;
      }) (rows-twice places s (rows (head w label ty else_id None ∷ more) uses ids labels) R)
      ∙ ap (λ (hs : List StoredHead).
      record (rows_added places s (rows (head w label ty else_id i ∷ more) uses ids labels ⊕ R)) {
        code = closed (f ∷ s.code.around) c;
        heads = hs;
      }) (end-head h s.heads (more ++ R.heads) else_id i e)
