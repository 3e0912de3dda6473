use Rattle.std.proofs.Common.{ℕ, ◌<◌, ◌≤◌, ◌++◌, ◌∷◌, List, ap, sym, subst, ◌∙◌, length, length-take-le, take}
use Rattle.std.proofs.Common.{get_or, drop-cons}
use Rattle.std.proofs.lemmas.List.{take-append-drop, take_all}
use Rattle.std.proofs.lemmas.Result.{err_from_is_err_and}
use Rattle.wc_syntax.specs.declared.kind.Kind.{Kind}
use Rattle.wc_syntax.specs.declared.refusal.Refusal.{Refusal}
use Rattle.wc_syntax.specs.declared.why.SynWhy.{SynWhy}
use Rattle.wc_syntax.specs.Standard.Parsing.{IsRefusal}
use Rattle.wc_syntax.specs.Standard.Reasons.{FirstFault}
use Rattle.wc_syntax.proofs.kept.kept_or_refusal.Goals as goal

-- a refusal behind the first tokens is one of all of them
of-all : (n : ℕ) (ks : List Kind) (q : ℕ) (s : Kind) (r : Refusal) → q < length ks
    → ((more : List Kind) → IsRefusal n (take q ks ++ get_or ks q s ∷ more) r) → IsRefusal n ks r
of-all n ks q s r l h =
    subst (λ (w : List Kind). IsRefusal n w r) (ap (λ (w : List Kind). take q ks ++ w) (sym (drop-cons ks q s l))
    ∙ take-append-drop q ks) (h _)

pub returns-in_err-role : goal.returns-in_err-role
returns-in_err-role c =
    let ks = c.args.kinds.now in
    let p = err_from_is_err_and c.from_residual.result c.from_residual.ensures.1 in
    let count = length-take-le c.loop-at.at ks c.loop-at.invariant.within in
    rw (p.1, p.2) (of-all c.args.limit ks c.loop-at.at _ _ c.loop-at-test.true
    (c.in_err-role.ensures.refused c.args.limit (take c.loop-at.at ks) _ c.loop-at.invariant.read (sym count)))

-- the end of the first tokens is that of all, where these are all
of-end : (n : ℕ) (ks : List Kind) (q : ℕ) (why : SynWhy) → q ≤ length ks → length ks ≤ q
    → FirstFault n (take q ks) (length (take q ks)) why → FirstFault n ks q why
of-end n ks q why l m f =
    subst (λ (w : List Kind). FirstFault n w q why) (take_all q ks m) (subst (λ (k : ℕ).
    FirstFault n (take q ks) k why) (length-take-le q ks l) f)

-- by a term, so that a wrong body is refused without a search
pub returns : goal.returns
returns c =
    of-end _ _ _ _ c.loop-at.invariant.within c.loop-at-test.false
    (c.is_text.ensures.fault _ _ _ c.loop-at.invariant.read c.if-is_text.false)
