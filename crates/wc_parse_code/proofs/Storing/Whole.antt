-- What kept tokens of a body say is what is stored of them.
use Rattle.std.proofs.Common.{◌≡◌, ℕ, suc, ◌≤◌, ◌^◌, List, [], ◌∷◌, ◌++◌, sym, ap, ◌∙◌, arith}
use Rattle.wc_body.specs.Standard.Nested.{nesting_limit, nesting}
use Rattle.wc_syntax.specs.declared.role.Role.TheVariants as role
use Rattle.wc_surface.specs.declared.head.TextBody.{TextBody}
use Rattle.wc_surface.specs.Standard.Written.Instructions.{Instrs}
use Rattle.wc_parse_code.specs.Drafting.Ending.{nothing_said, all_closed, ended}
use Rattle.wc_parse_code.specs.Standard.Productions.Tokens.{Said, ◌⊳◌, IsId}
use Rattle.wc_parse_code.specs.Standard.Productions.Instructions.{Part, Says}
use Rattle.wc_parse_code.specs.Drafting.Following.{take_said}
use Rattle.wc_parse_code.specs.Stored.Rows.{Rows, index_token}
use Rattle.wc_parse_code.specs.Stored.Bodies.{Places, places_in, body_with, body_as}
use Rattle.wc_parse_code.proofs.Storing.Ordered.Placing.{placed-all}
use Rattle.wc_parse_code.proofs.Storing.Ordered.Following.{Follow, follow-range, Parted, part}
use Rattle.wc_parse_code.proofs.Storing.Ordered.Rows.{rows-are}
use Rattle.wc_parse_code.proofs.Storing.States.{State, standing, Fits}
use Rattle.wc_parse_code.proofs.Storing.Instructions.{Stores, nothing-stored, both-stored, plain-stored}
use Rattle.wc_parse_code.proofs.Storing.Instructions.{folded-plain-stored}
use Rattle.wc_parse_code.proofs.Storing.Nested.{first_tokens, second_tokens, region-stored, if-stored, if-else-stored}
use Rattle.wc_parse_code.proofs.Storing.Folded.{condition_tokens, then_tokens, folded-then-stored, folded-else-stored}

-- the first part ends no later
inner : (hi : ℕ) {lo : ℕ} {us vs : List Said} (p : Parted lo hi us vs) → hi ≤ 2 ^ 32 → p.mid ≤ 2 ^ 32
inner hi {vs = vs} p e = omega (arith, e, follow-range p.mid hi vs p.last)

-- by each production
pub says-stored : {q : Part} {us : List Said} {c : Instrs} → Says q us c → (lo hi : ℕ) → Follow lo us hi → hi ≤ 2 ^ 32
    → Stores lo hi us c
says-stored Says.none lo hi f e = nothing-stored lo hi f
says-stored (Says.more {us = us} {vs = vs} a b) lo hi f e =
    let p = part lo hi us vs f in
    both-stored lo hi p (says-stored a lo p.mid p.first (inner hi p e)) (says-stored b p.mid hi p.last e)
says-stored (Says.plain h) lo hi f e = plain-stored lo hi f e h
says-stored (Says.folded a) lo hi f e = says-stored a lo hi f e
says-stored (Says.region z {w = w} {us = us} {is = is} {xs = xs} r h a l) lo hi f e =
    let p = part lo hi (first_tokens w us is) (role.End ⊳ z ∷ xs) f in
    let q = part lo p.mid (role.Begin ⊳ w ∷ us) is p.first in
    region-stored lo hi z w us is xs p q e r h (says-stored a q.mid p.mid q.last (inner hi p e)) l
says-stored (Says.if_then z {w = w} {us = us} {is = is} {xs = xs} n h a l) lo hi f e =
    let p = part lo hi (first_tokens w us is) (role.End ⊳ z ∷ xs) f in
    let q = part lo p.mid (role.Begin ⊳ w ∷ us) is p.first in
    if-stored lo hi z w us is xs p q e n h (says-stored a q.mid p.mid q.last (inner hi p e)) l
says-stored (Says.if_else y z {w = w} {us = us} {is = is} {ys = ys} {js = js} {xs = xs} n h a m b l) lo hi f e =
    let p = part lo hi (second_tokens w y us is ys js) (role.End ⊳ z ∷ xs) f in
    let q = part lo p.mid (first_tokens w us is ++ role.Else ⊳ y ∷ ys) js p.first in
    let r = part lo q.mid (first_tokens w us is) (role.Else ⊳ y ∷ ys) q.first in
    let s = part lo r.mid (role.Begin ⊳ w ∷ us) is r.first in
    let below = inner p.mid q (inner hi p e) in
    if-else-stored lo hi y z w us is ys js xs p q r s e n h
    (says-stored a s.mid r.mid s.last (inner q.mid r below)) m
    (says-stored b q.mid p.mid q.last (inner hi p e)) l
says-stored Says.no_folded lo hi f e = nothing-stored lo hi f
says-stored (Says.more_folded {us = us} {vs = vs} a b) lo hi f e =
    let p = part lo hi us vs f in
    both-stored lo hi p (says-stored a lo p.mid p.first (inner hi p e)) (says-stored b p.mid hi p.last e)
says-stored (Says.folded_plain z {us = us} {vs = vs} h a) lo hi f e =
    let p = part lo hi (us ++ vs) (role.HeldEnd ⊳ z ∷ []) f in
    let q = part lo p.mid us vs p.first in
    folded-plain-stored lo hi z p q e h (says-stored a q.mid p.mid q.last (inner hi p e))
says-stored (Says.folded_region z {w = w} {us = us} {is = is} r h a) lo hi f e =
    let p = part lo hi (first_tokens w us is) (role.End ⊳ z ∷ []) f in
    let q = part lo p.mid (role.Begin ⊳ w ∷ us) is p.first in
    region-stored lo hi z w us is [] p q e r h (says-stored a q.mid p.mid q.last (inner hi p e)) IsId.absent
says-stored (Says.folded_then t z {w = w} {us = us} {cs = cs} {is = is} n h a b) lo hi f e =
    let p = part lo hi (then_tokens w t us cs is) (role.End ⊳ z ∷ []) f in
    let q = part lo p.mid (condition_tokens w us cs) (role.Then ⊳ t ∷ is) p.first in
    let r = part lo q.mid (role.HeldBegin ⊳ w ∷ us) cs q.first in
    let below = inner hi p e in
    folded-then-stored lo hi t z w us cs is p q r e h
    (says-stored a r.mid q.mid r.last (inner p.mid q below))
    (says-stored b (suc t.token) p.mid q.last.3 below)
says-stored (Says.folded_else t y z {w = w} {us = us} {cs = cs} {is = is} {js = js} n h a b d) lo hi f e =
    let p = part lo hi (then_tokens w t us cs is ++ role.Else ⊳ y ∷ js) (role.End ⊳ z ∷ []) f in
    let o = part lo p.mid (then_tokens w t us cs is) (role.Else ⊳ y ∷ js) p.first in
    let q = part lo o.mid (condition_tokens w us cs) (role.Then ⊳ t ∷ is) o.first in
    let r = part lo q.mid (role.HeldBegin ⊳ w ∷ us) cs q.first in
    let below = inner hi p e in
    let middle = inner p.mid o below in
    folded-else-stored lo hi t y z w us cs is js p o q r e h
    (says-stored a r.mid q.mid r.last (inner o.mid q middle))
    (says-stored b (suc t.token) o.mid q.last.3 middle)
    (says-stored d (suc y.token) p.mid o.last.3 below)

-- what has been said, once all that is open has ended
abbrev body_of_state : State → TextBody
body_of_state s = record {
  code = all_closed s.code.around s.code.last;
  heads = s.heads;
  uses = s.uses;
  ids = s.ids;
  labels = s.labels;
}

-- of the tokens of a whole body
pub body-stored : (hi : ℕ) (q : Part) (us : List Said) (c : Instrs) → Says q us c → Follow 0 us hi → hi ≤ 2 ^ 32
    → nesting c ≤ nesting_limit → ended (take_said nothing_said us) ≡ body_as c
body-stored hi q us c s f e room =
    let stored = says-stored s 0 hi f e in
    let R : Rows = stored.rows in
    let places : Places = places_in R in
    let fits : Fits places (standing nothing_said) R = record {
      heads = placed-all (λ h. h.token) R.heads hi e stored.rowed.heads.rises;
      uses = placed-all (λ u. u.token) R.uses hi e stored.rowed.uses.rises;
      ids = placed-all (λ i. i.token) R.ids hi e stored.rowed.ids.rises;
      labels = placed-all index_token R.labels hi e stored.rowed.labels.rises;
    } in
    ap body_of_state (stored.adds.to places nothing_said fits (omega (arith, room)))
    ∙ ap (λ (Q : Rows). body_with (places_in Q) Q c) (sym (rows-are 0 hi c R stored.rowed))
