use Rattle.std.proofs.Common.{◌≡◌, ◌∷◌, ℕ, subst, rules}
use Rattle.wc_tokens.proofs.Lexing.OpenedLaws.{comment-passed}
use Rattle.wc_tokens.proofs.opened.behind_comment.Goals as goal

pub returns : goal.returns
returns c =
    let e = c.in_ok-front.ensures {u = tt} in
    let front = c.in_ok-front.front in
    let first : front.first ≡ 40 = search rules in
    comment-passed c.args.text.now front.here.now front.rest.now c.in_ok-inside.inside.now c.after_comment.result e.0
    (subst (λ (x : ℕ). front.here.now ≡ x ∷ front.rest.now) first e.1.here_is) (c.in_ok-inside.ensures {u = tt})
    c.after_comment.ensures
