use Rattle.std.proofs.Common.{refl, ap, ◌∷◌, ◌∙◌, rules, ◌≡◌, length}
use Rattle.wc_ops.specs.declared.op.IndexOp.TheVariants as index
use Rattle.wc_body.proofs.Drafts.Runs.FrontLemmas.{index-notes, indirect-notes, i32-notes, i64-notes, plain-notes}
use Rattle.wc_body.proofs.runs.front.instr_front.Goals as goal

pub returns-in-12-clause-some : goal.returns-in-12-clause-some
returns-in-12-clause-some c =
    let open_ : c.len-enclosing.result ≡ length c.args.parts.now.items = search rules in
    index-notes _ _ 12 _ _ _ c.args.parts.now.items (c.in_ok-byte.ensures.cases.0
    ∙ ap (λ b. b ∷ c.in_ok-byte.rest.now) c.in-12.is)
    index.Br refl _ open_ c.index_front.result c.index_front.ensures.some

pub returns-in-13-clause-some : goal.returns-in-13-clause-some
returns-in-13-clause-some c =
    let open_ : c.len-enclosing.result ≡ length c.args.parts.now.items = search rules in
    index-notes _ _ 13 _ _ _ c.args.parts.now.items (c.in_ok-byte.ensures.cases.0
    ∙ ap (λ b. b ∷ c.in_ok-byte.rest.now) c.in-13.is)
    index.BrIf refl _ open_ c.index_front-in-13.result c.index_front-in-13.ensures.some

pub returns-in-16-clause-some : goal.returns-in-16-clause-some
returns-in-16-clause-some c =
    let open_ : c.len-enclosing.result ≡ length c.args.parts.now.items = search rules in
    index-notes _ _ 16 _ _ _ c.args.parts.now.items (c.in_ok-byte.ensures.cases.0
    ∙ ap (λ b. b ∷ c.in_ok-byte.rest.now) c.in-16.is)
    index.Call refl _ open_ c.index_front-in-16.result c.index_front-in-16.ensures.some

pub returns-in-17-clause-some : goal.returns-in-17-clause-some
returns-in-17-clause-some c =
    indirect-notes _ _ 17 _ _ _ c.args.parts.now.items (c.in_ok-byte.ensures.cases.0
    ∙ ap (λ b. b ∷ c.in_ok-byte.rest.now) c.in-17.is)
    refl c.len-enclosing.result c.indirect_front.result c.indirect_front.ensures.some

pub returns-in-32-clause-some : goal.returns-in-32-clause-some
returns-in-32-clause-some c =
    let open_ : c.len-enclosing.result ≡ length c.args.parts.now.items = search rules in
    index-notes _ _ 32 _ _ _ c.args.parts.now.items (c.in_ok-byte.ensures.cases.0
    ∙ ap (λ b. b ∷ c.in_ok-byte.rest.now) c.in-32.is)
    index.LocalGet refl _ open_ c.index_front-in-32.result c.index_front-in-32.ensures.some

pub returns-in-33-clause-some : goal.returns-in-33-clause-some
returns-in-33-clause-some c =
    let open_ : c.len-enclosing.result ≡ length c.args.parts.now.items = search rules in
    index-notes _ _ 33 _ _ _ c.args.parts.now.items (c.in_ok-byte.ensures.cases.0
    ∙ ap (λ b. b ∷ c.in_ok-byte.rest.now) c.in-33.is)
    index.LocalSet refl _ open_ c.index_front-in-33.result c.index_front-in-33.ensures.some

pub returns-in-34-clause-some : goal.returns-in-34-clause-some
returns-in-34-clause-some c =
    let open_ : c.len-enclosing.result ≡ length c.args.parts.now.items = search rules in
    index-notes _ _ 34 _ _ _ c.args.parts.now.items (c.in_ok-byte.ensures.cases.0
    ∙ ap (λ b. b ∷ c.in_ok-byte.rest.now) c.in-34.is)
    index.LocalTee refl _ open_ c.index_front-in-34.result c.index_front-in-34.ensures.some

pub returns-in-35-clause-some : goal.returns-in-35-clause-some
returns-in-35-clause-some c =
    let open_ : c.len-enclosing.result ≡ length c.args.parts.now.items = search rules in
    index-notes _ _ 35 _ _ _ c.args.parts.now.items (c.in_ok-byte.ensures.cases.0
    ∙ ap (λ b. b ∷ c.in_ok-byte.rest.now) c.in-35.is)
    index.GlobalGet refl _ open_ c.index_front-in-35.result c.index_front-in-35.ensures.some

pub returns-in-36-clause-some : goal.returns-in-36-clause-some
returns-in-36-clause-some c =
    let open_ : c.len-enclosing.result ≡ length c.args.parts.now.items = search rules in
    index-notes _ _ 36 _ _ _ c.args.parts.now.items (c.in_ok-byte.ensures.cases.0
    ∙ ap (λ b. b ∷ c.in_ok-byte.rest.now) c.in-36.is)
    index.GlobalSet refl _ open_ c.index_front-in-36.result c.index_front-in-36.ensures.some

pub returns-in-65-clause-some : goal.returns-in-65-clause-some
returns-in-65-clause-some c =
    i32-notes _ _ 65 _ c.args.needs.now _ c.args.parts.now.items (c.in_ok-byte.ensures.cases.0
    ∙ ap (λ b. b ∷ c.in_ok-byte.rest.now) c.in-65.is)
    refl c.behind_i32.result c.behind_i32.ensures

pub returns-in-66-clause-some : goal.returns-in-66-clause-some
returns-in-66-clause-some c =
    i64-notes _ _ 66 _ c.args.needs.now _ c.args.parts.now.items (c.in_ok-byte.ensures.cases.0
    ∙ ap (λ b. b ∷ c.in_ok-byte.rest.now) c.in-66.is)
    refl c.behind_i64.result c.behind_i64.ensures

pub returns-in_default-clause-some : goal.returns-in_default-clause-some
returns-in_default-clause-some c =
    plain-notes _ _ _ _ _ _ c.args.parts.now.items c.in_ok-byte.ensures.cases.0 c.meant_front.result
    c.meant_front.ensures.some
