-- Folded ifs that are said are stored: the condition stands in front of the if, whose head is written first.
use Rattle.std.proofs.Common.{◌≡◌, ℕ, suc, ◌+◌, ◌≤◌, ◌<◌, ◌^◌, List, [], ◌∷◌, ◌++◌, length}
use Rattle.std.proofs.Common.{Option, None, sym, ap, ◌∙◌, subst, arith}
use Rattle.wc_body.specs.Standard.Nested.{nesting_limit, nesting, Code, empty, ◌⧺◌}
use Rattle.wc_body.specs.Standard.Draft.{in_then, draft}
use Rattle.wc_body.specs.Stored.Rebuilt.{append-assoc}
use Rattle.wc_syntax.specs.declared.role.Role.TheVariants as role
use Rattle.wc_surface.specs.Standard.Identifiers.{Identifier}
use Rattle.wc_surface.specs.Standard.Written.Instructions.{BlockType, Head, Instrs}
use Rattle.wc_parse_code.specs.declared.held.Held.TheVariants as held
use Rattle.wc_parse_code.specs.declared.body_draft.BodyDraft.{BodyDraft}
use Rattle.wc_parse_code.specs.Standard.Tokens.{KeptToken}
use Rattle.wc_parse_code.specs.Drafting.Taking.{take}
use Rattle.wc_parse_code.specs.Standard.Productions.Tokens.{Said, ◌⊳◌, IsId}
use Rattle.wc_parse_code.specs.Standard.Productions.Instructions.{IsHead, head}
use Rattle.wc_parse_code.specs.Drafting.Following.{take_said}
use Rattle.wc_parse_code.specs.Stored.Rows.{Rows, type_uses_in}
use Rattle.wc_parse_code.specs.Stored.Bodies.{Places, code_as}
use Rattle.wc_parse_code.proofs.Storing.Ordered.Following.{Follow, follow-range, Parted, said-append}
use Rattle.wc_parse_code.proofs.Storing.Ordered.Rows.{◌⊕◌, head_rows, Rowed, rowed-none, rowed-widen}
use Rattle.wc_parse_code.proofs.Storing.Ordered.Rows.{rowed-folded}
use Rattle.wc_parse_code.proofs.Storing.States.{Stored, State, standing, rows_added, code_added, within, Fits}
use Rattle.wc_parse_code.proofs.Storing.States.{fits-first, fits-last, rows-twice}
use Rattle.wc_parse_code.proofs.Storing.Blocks.{if-held, if-released}
use Rattle.wc_parse_code.proofs.Storing.Instructions.{Adds, Stores, adds-at, nesting-append, code-append}
use Rattle.wc_parse_code.proofs.Storing.Nested.{rows-assoc, rows-end, last-part, two-parts}

-- the tokens up to the end of the condition
abbrev pub condition_tokens : KeptToken → List Said → List Said → List Said
condition_tokens w us cs = (role.HeldBegin ⊳ w ∷ us) ++ cs

-- the tokens up to the end of the first part
abbrev pub then_tokens : KeptToken → KeptToken → List Said → List Said → List Said → List Said
then_tokens w t us cs is = condition_tokens w us cs ++ role.Then ⊳ t ∷ is

-- the condition is said, and the if begins
condition-said : (places : Places) (lo hi : ℕ) (d : BodyDraft) (w t : KeptToken) (us cs : List Said)
    {label : Option Identifier} {ty : BlockType} {c : Instrs} {R : Rows} → IsHead us label ty → Follow lo us hi
    → hi ≤ 2 ^ 32 → Adds cs c R → Fits places (standing d) (head_rows (head w label ty None None) ⊕ R)
    → length (standing d).code.around + nesting c ≤ nesting_limit → length (standing d).code.around < nesting_limit
    → standing (take (take_said (take_said d (role.HeldBegin ⊳ w ∷ us)) cs) role.Then t)
    ≡ within places (code_added (standing d) (code_as places c)) (head_rows (head w label ty None None) ⊕ R)
    (in_then ((standing d).code.last ⧺ code_as places c) (places.head_at w.token)) (places.head_at w.token)
condition-said places lo hi d w t us cs {label = label} {ty = ty} {c = c} {R = R} i f less a p room open_room =
    let s : State = standing d in
    let h : Head = head w label ty None None in
    let at : ℕ = places.head_at w.token in
    let k : Stored = code_as places c in
    let d1 : BodyDraft = take_said d (role.HeldBegin ⊳ w ∷ us) in
    let waits : State = record (rows_added places s (head_rows h)) { held = held.If at ∷ s.held } in
    let before = if-held places lo hi w i f less d (fits-first places s (head_rows h) R p) in
    let is = adds-at a places d1 waits before (fits-last places s (head_rows h) R p) room in
    if-released (take_said d1 cs) t at s.held (ap (λ (x : State). x.held) is)
    (subst (λ (x : State). length x.code.around < nesting_limit) (sym is) open_room)
    ∙ ap (λ (x : State). record x {
      code = draft (in_then x.code.last at ∷ x.code.around) empty;
      held = s.held;
      blocks = at ∷ x.blocks;
    }) is
    ∙ ap (λ (x : State). record x {
      code = draft (in_then (s.code.last ⧺ k) at ∷ s.code.around) empty;
      held = s.held;
      blocks = at ∷ s.blocks;
    }) (rows-twice places s (head_rows h) R)

pub folded-then-stored : (lo hi : ℕ) (t z w : KeptToken) (us cs is : List Said) {label : Option Identifier}
    {ty : BlockType} {c e : Instrs} (f : Parted lo hi (then_tokens w t us cs is) (role.End ⊳ z ∷ []))
    (g : Parted lo f.mid (condition_tokens w us cs) (role.Then ⊳ t ∷ is))
    (i : Parted lo g.mid (role.HeldBegin ⊳ w ∷ us) cs) → hi ≤ 2 ^ 32 → IsHead us label ty → Stores i.mid g.mid cs c
    → Stores (suc t.token) f.mid is e
    → Stores lo hi (then_tokens w t us cs is ++ role.End ⊳ z ∷ [])
    (c ⧺ Code.choice (head w label ty None None) e Code.empty Code.empty)
folded-then-stored lo hi t z w us cs is {label = label} {ty = ty} {c = c} {e = e} f g i less n a b =
    let h : Head = head w label ty None None in
    let front = follow-range (suc w.token) i.mid us i.first.3 in
    let condition = follow-range i.mid g.mid cs i.last in
    let first = follow-range (suc t.token) f.mid is g.last.3 in
    let behind = follow-range f.mid hi (role.End ⊳ z ∷ []) f.last in record {
      rows = head_rows h ⊕ (a.rows ⊕ b.rows);
      rowed = subst
          (λ (R : Rows). Rowed lo hi (c ⧺ Code.choice h e Code.empty Code.empty) (head_rows h ⊕ (a.rows ⊕ R)))
          (rows-end b.rows)
          (rowed-folded lo g.mid f.mid hi h i.first.2
          (rowed-widen (suc w.token) i.mid g.mid g.mid front (omega arith) a.rowed)
          (rowed-widen g.mid (suc t.token) f.mid f.mid (omega (arith, g.last.2)) (omega arith) b.rowed)
          (rowed-none f.mid hi behind));
      adds = record {
        to = λ places d p room.
            let s : State = standing d in
            let at : ℕ = places.head_at w.token in
            let k : Stored = code_as places c in
            let body : Stored = Code.choice at (code_as places e) Code.empty Code.empty in
            let d1 : BodyDraft = take_said d (role.HeldBegin ⊳ w ∷ us) in
            let d2 : BodyDraft = take (take_said d1 cs) role.Then t in
            let all = subst (λ (R : Rows). Fits places s R) (sym (rows-assoc (head_rows h) a.rows b.rows)) p in
            let deep = nesting-append c (Code.choice h e Code.empty Code.empty) in
            let begun = condition-said places (suc w.token) i.mid d w t us cs n i.first.3
            (omega (arith, less, condition, first, behind, g.last.2)) a.adds
            (fits-first places s (head_rows h ⊕ a.rows) b.rows all) (omega (arith, room, deep))
            (omega (arith, room, deep)) in
            ap standing
            (said-append d (then_tokens w t us cs is) (role.End ⊳ z ∷ [])
            ∙ ap (λ (x : BodyDraft). take_said x (role.End ⊳ z ∷ []))
            (said-append d (condition_tokens w us cs) (role.Then ⊳ t ∷ is)
            ∙ ap (λ (x : BodyDraft). take_said x (role.Then ⊳ t ∷ is)) (said-append d (role.HeldBegin ⊳ w ∷ us) cs)))
            ∙ last-part places w label ty a.rows.heads (type_uses_in w.token ty ++ a.rows.uses) a.rows.ids
            a.rows.labels
            d2 z (code_added s k) (in_then (s.code.last ⧺ k) at) b.rows None None is b.adds IsId.absent begun all
            (omega (arith, room, deep))
            ∙ ap (λ (R : Rows). record (rows_added places s R) {
              code = draft s.code.around ((s.code.last ⧺ k) ⧺ body);
            }) (rows-assoc (head_rows h) a.rows b.rows)
            ∙ ap (λ (x : Stored). record (rows_added places s (head_rows h ⊕ (a.rows ⊕ b.rows))) {
              code = draft s.code.around x;
            })
            (append-assoc s.code.last k body
            ∙ ap (λ (x : Stored). s.code.last ⧺ x)
            (sym (code-append places c (Code.choice h e Code.empty Code.empty))));
      };
    }

pub folded-else-stored : (lo hi : ℕ) (t y z w : KeptToken) (us cs is js : List Said) {label : Option Identifier}
    {ty : BlockType} {c e j : Instrs}
    (f : Parted lo hi (then_tokens w t us cs is ++ role.Else ⊳ y ∷ js) (role.End ⊳ z ∷ []))
    (q : Parted lo f.mid (then_tokens w t us cs is) (role.Else ⊳ y ∷ js))
    (g : Parted lo q.mid (condition_tokens w us cs) (role.Then ⊳ t ∷ is))
    (i : Parted lo g.mid (role.HeldBegin ⊳ w ∷ us) cs) → hi ≤ 2 ^ 32 → IsHead us label ty → Stores i.mid g.mid cs c
    → Stores (suc t.token) q.mid is e → Stores (suc y.token) f.mid js j
    → Stores lo hi (then_tokens w t us cs is ++ role.Else ⊳ y ∷ js ++ role.End ⊳ z ∷ [])
    (c ⧺ Code.choice (head w label ty None None) e j Code.empty)
folded-else-stored lo hi t y z w us cs is js {label = label} {ty = ty} {c = c} {e = e} {j = j} f q g i less n a b l =
    let h : Head = head w label ty None None in
    let front = follow-range (suc w.token) i.mid us i.first.3 in
    let condition = follow-range i.mid g.mid cs i.last in
    let first = follow-range (suc t.token) q.mid is g.last.3 in
    let second = follow-range (suc y.token) f.mid js q.last.3 in
    let behind = follow-range f.mid hi (role.End ⊳ z ∷ []) f.last in record {
      rows = head_rows h ⊕ (a.rows ⊕ (b.rows ⊕ l.rows));
      rowed = rowed-folded lo g.mid q.mid hi h i.first.2
          (rowed-widen (suc w.token) i.mid g.mid g.mid front (omega arith) a.rowed)
          (rowed-widen g.mid (suc t.token) q.mid q.mid (omega (arith, g.last.2)) (omega arith) b.rowed)
          (rowed-widen q.mid (suc y.token) f.mid hi (omega (arith, q.last.2)) behind l.rowed);
      adds = record {
        to = λ places d p room.
            let s : State = standing d in
            let at : ℕ = places.head_at w.token in
            let k : Stored = code_as places c in
            let body : Stored = Code.choice at (code_as places e) (code_as places j) Code.empty in
            let d1 : BodyDraft = take_said d (role.HeldBegin ⊳ w ∷ us) in
            let d2 : BodyDraft = take (take_said d1 cs) role.Then t in
            let order = rows-assoc (head_rows h ⊕ a.rows) b.rows l.rows
            ∙ rows-assoc (head_rows h) a.rows (b.rows ⊕ l.rows) in
            let all = subst (λ (R : Rows). Fits places s R) (sym order) p in
            let deep = nesting-append c (Code.choice h e j Code.empty) in
            let begun = condition-said places (suc w.token) i.mid d w t us cs n i.first.3
            (omega (arith, less, condition, first, second, behind, g.last.2, q.last.2)) a.adds
            (fits-first places s (head_rows h ⊕ a.rows) b.rows
            (fits-first places s ((head_rows h ⊕ a.rows) ⊕ b.rows) l.rows all))
            (omega (arith, room, deep)) (omega (arith, room, deep)) in
            ap standing
            (said-append d (then_tokens w t us cs is ++ role.Else ⊳ y ∷ js) (role.End ⊳ z ∷ [])
            ∙ ap (λ (x : BodyDraft). take_said x (role.End ⊳ z ∷ []))
            (said-append d (then_tokens w t us cs is) (role.Else ⊳ y ∷ js)
            ∙ ap (λ (x : BodyDraft). take_said x (role.Else ⊳ y ∷ js))
            (said-append d (condition_tokens w us cs) (role.Then ⊳ t ∷ is)
            ∙ ap (λ (x : BodyDraft). take_said x (role.Then ⊳ t ∷ is)) (said-append d (role.HeldBegin ⊳ w ∷ us) cs))))
            ∙ two-parts places w label ty a.rows.heads (type_uses_in w.token ty ++ a.rows.uses) a.rows.ids
            a.rows.labels
            d2 y z (code_added s k) (s.code.last ⧺ k) b.rows l.rows None None is [] js b.adds IsId.absent l.adds
            IsId.absent
            begun all (omega (arith, room, deep))
            ∙ ap (λ (R : Rows). record (rows_added places s R) {
              code = draft s.code.around ((s.code.last ⧺ k) ⧺ body);
            }) order
            ∙ ap (λ (x : Stored). record (rows_added places s (head_rows h ⊕ (a.rows ⊕ (b.rows ⊕ l.rows)))) {
              code = draft s.code.around x;
            })
            (append-assoc s.code.last k body
            ∙ ap (λ (x : Stored). s.code.last ⧺ x) (sym (code-append places c (Code.choice h e j Code.empty))));
      };
    }
