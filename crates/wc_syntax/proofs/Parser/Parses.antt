-- Where a reader stands, the tokens so far lead.
use Rattle.std.proofs.Common.{arith, ◌-◌, ◌≡◌, ℕ, zero, suc, ◌+◌, ◌<◌, ◌≤◌, Bool, true, false, List, [], ◌∷◌, ◌++◌}
use Rattle.std.proofs.Common.{length, take, get_or, Option, Some, None, refl, sym, ap, subst, ◌∙◌}
use Rattle.std.proofs.Common.{length-append}
use Rattle.std.proofs.lemmas.Bool.{leb-true, leb-false}
use Rattle.wc_syntax.specs.declared.kind.Kind.{Kind}
use Rattle.wc_syntax.specs.declared.role.Role.{Role}
use Rattle.wc_syntax.specs.declared.place.Frame.{Frame}
use Rattle.wc_syntax.specs.declared.place.Move.{Move}
use Rattle.wc_syntax.specs.declared.place.Move.TheVariants.{On, Past, Turn, Into, Out}
use Rattle.wc_syntax.specs.declared.place.Action.{Action}
use Rattle.wc_syntax.specs.declared.why.SynWhy.{SynWhy}
use Rattle.wc_syntax.specs.declared.why.SynWhy.TheVariants as why
use Rattle.wc_syntax.specs.Standard.Phrases.{word}
use Rattle.wc_syntax.specs.Standard.Deriving.{Item, at, numbered, Event}
use Rattle.wc_syntax.specs.Standard.Parsing.{IsText}
use Rattle.wc_syntax.specs.Standard.Reasons.{FirstFault}
use Rattle.wc_syntax.specs.Tables.Table.{step, is_end, reason_of}
use Rattle.wc_syntax.specs.Standard.Reading.{Standing, IsRead, nothing_read, one_read, is_deep, moved, left_for}
use Rattle.wc_syntax.specs.Standard.Reading.{action_at, kept_as}
use Rattle.wc_syntax.proofs.Tabled.Agreement.{limit-reached}
use Rattle.wc_syntax.proofs.Parser.States.{Bottom, nests, up, Reached, reached-first, Next, next, keeps-one}
use Rattle.wc_syntax.proofs.Stacks.Ends.{take-numbered, numbered-more, all-of-it, fault-here, fault-end, accepted}

pub record Reaches (n : ℕ) (ks : List Kind) (es : List Event) (s : Standing) : Type 0 where
  pub same : s.limit ≡ n
  pub more : ℕ
  pub reached : Reached n (numbered 0 ks) more s.place s.frame s.around es

-- all but the outermost count
nests-are : (b : Frame) (bs : List Frame) → Bottom b bs → nests bs ≡ length bs - 1
nests-are b [] h = refl
nests-are b (c ∷ []) h = rw (h.2) refl
nests-are b (c ∷ x ∷ bs) h = rw (h.2.0) (let i = nests-are c (x ∷ bs) h.2 in omega (arith, i))

-- whether the limit is reached
deep-is : (d k n : ℕ) (deep : Bool) → d + k ≡ n → (deep ≡ true → n ≤ k) → (deep ≡ false → k < n)
    → deep ≡ limit-reached d
deep-is zero k n true e f g = refl
deep-is zero k n false e f g = absurd (omega (arith, g refl))
deep-is (suc d) k n true e f g = absurd (omega (arith, f refl))
deep-is (suc d) k n false e f g = refl

deep-so : (n : ℕ) (xs : List Item) (d : ℕ) (s : Standing) (e : List Event) → s.limit ≡ n
    → Reached n xs d s.place s.frame s.around e → is_deep s ≡ limit-reached d
deep-so n xs d s e h r =
    let g = nests-are s.frame s.around r.bottom in
    let k = length s.around - 1 in
    deep-is d (nests s.around) n (is_deep s) r.depth (λ i. let j = leb-true s.limit k i in omega (arith, j, g, h)) (λ i.
    let j = leb-false s.limit k i in omega (arith, j, g, h))

landed : (n : ℕ) (ks : List Kind) (d : ℕ) (s : Standing) (e : List Event) (g : Move) → s.limit ≡ n
    → Next n (numbered 0 ks) d s.frame s.around e g → Reaches n ks e (moved g s)
landed n ks d s e (On p) h r = record { same = h; more = d; reached = r }
landed n ks d s e (Past p) h r = record { same = h; more = d; reached = r }
landed n ks d s e (Turn p c) h r = record { same = h; more = d; reached = r }
landed n ks d s e (Into p c) h (f, r) = record { same = h; more = f; reached = r }
landed n ks d s e (Out p) h (c, cs, g, r) =
    subst (λ (w : List Frame). Reaches n ks e (left_for s.limit p s.frame w)) (sym g) (record {
      same = h;
      more = up c d;
      reached = r;
    })

kept-is : (o : Option Role) (n : ℕ) (k : Kind) → keeps-one o (at n (word k)) ≡ kept_as o n k
kept-is None n k = refl
kept-is (Some r) n k = refl

one-more : (ks : List Kind) (k : Kind) → numbered 0 ks ++ at (length ks) (word k) ∷ [] ≡ numbered 0 (ks ++ k ∷ [])
one-more ks k =
    ap (λ (i : ℕ). numbered 0 ks ++ at i (word k) ∷ []) (let e : length ks ≡ 0 + length ks = omega arith in e)
    ∙ sym (numbered-more 0 ks k)

pub reaches : {n : ℕ} {ks : List Kind} {es : List Event} {s : Standing} → IsRead n ks es s → Reaches n ks es s
reaches {n = n} nothing_read = record { same = refl; more = n; reached = reached-first n }
reaches {n = n} (one_read {ks = ks} {es = es} {s = s} k a r h) =
    let w = reaches r in
    let i = at (length ks) (word k) in
    let d = subst (λ (y : Bool). step s.place s.frame y k ≡ Some a)
    (deep-so n (numbered 0 ks) w.more s es w.same w.reached) h in
    let q = next n (numbered 0 ks) w.more s.place s.frame s.around es i a w.reached d in
    let q' = subst (λ (xs : List Item). Next n xs w.more s.frame s.around (es ++ keeps-one a.keep i) a.go)
    (one-more ks k) q in
    subst (λ (fs : List Event). Reaches n (ks ++ k
    ∷ []) (es ++ fs) (moved a.go s)) (kept-is a.keep (length ks) k) (landed n (ks ++ k
    ∷ []) w.more s (es ++ keeps-one a.keep i) a.go w.same q')

-- ---- the fault and the end

take-front : (ks us : List Kind) → take (length ks) (ks ++ us) ≡ ks
take-front [] us = refl
take-front (k ∷ ks) us = ap (λ (w : List Kind). k ∷ w) (take-front ks us)

get-behind : (ks us : List Kind) (k : Kind) → get_or (ks ++ k ∷ us) (length ks) k ≡ k
get-behind [] us k = refl
get-behind (x ∷ ks) us k = get-behind ks us k

pub refused-at : (n : ℕ) (ks : List Kind) (es : List Event) (s : Standing) (k : Kind) (us : List Kind)
    → IsRead n ks es s → action_at s k ≡ None → FirstFault n (ks ++ k
    ∷ us) (length ks) (reason_of s.place s.frame (is_deep s) k)
refused-at n ks es s k us r h =
    let w = reaches r in
    let ts = ks ++ k ∷ us in
    let deep = deep-so n (numbered 0 ks) w.more s es w.same w.reached in
    let here = get-behind ks us k in
    let xs : numbered 0 ks ≡ take (length ks) (numbered 0 ts) =
    sym (take-numbered 0 (length ks) ts ∙ ap (λ (y : List Kind). numbered 0 y) (take-front ks (k ∷ us))) in
    let q = subst (λ (y : List Item). Reached n y w.more s.place s.frame s.around es) xs w.reached in
    let g = subst (λ (y : Bool). step s.place s.frame y k ≡ None) deep h in
    let g' = subst (λ (y : Kind). step s.place s.frame (limit-reached w.more) y ≡ None) (sym here) g in
    let l : length ks < length ts = (let e = length-append ks (k ∷ us) in omega (arith, e)) in
    let f = fault-here n ts (length ks) k w.more s.place s.frame s.around es l q g' in
    let f' = subst (λ (y : Kind). FirstFault n ts (length ks) (reason_of s.place s.frame (limit-reached w.more) y)) here
    f in
    subst (λ (y : Bool). FirstFault n ts (length ks) (reason_of s.place s.frame y k)) (sym deep) f'

pub ended : (n : ℕ) (ks : List Kind) (es : List Event) (s : Standing) → IsRead n ks es s → is_end s.place s.frame ≡ true
    → IsText n ks es
ended n ks es s r h = let w = reaches r in accepted n (numbered 0 ks) w.more s.place s.frame s.around es w.reached h

pub not-ended : (n : ℕ) (ks : List Kind) (es : List Event) (s : Standing) → IsRead n ks es s
    → is_end s.place s.frame ≡ false → FirstFault n ks (length ks) why.End
not-ended n ks es s r h =
    let w = reaches r in
    fault-end n ks (length ks) w.more s.place s.frame s.around es refl (subst (λ (y : List Item).
    Reached n y w.more s.place s.frame s.around es) (sym (all-of-it ks (length ks) (omega arith))) w.reached) h

-- ---- the list of what is kept

-- ---- what the code computes

pub refused-by : (n : ℕ) (ks : List Kind) (es : List Event) (s t : Standing) (k : Kind) (us : List Kind) (deep : Bool)
    (o : Option Action) (y : SynWhy) (q : ℕ) → IsRead n ks es s → t ≡ s → deep ≡ is_deep s
    → o ≡ step t.place t.frame deep k → o ≡ None → y ≡ reason_of t.place t.frame deep k → q ≡ length ks
    → FirstFault n (ks ++ k ∷ us) q y
refused-by n ks es s t k us deep o y q r e f g h i j =
    let h' : action_at s k ≡ None = subst (λ (z : Standing).
    step z.place z.frame (is_deep s) k ≡ None) e (subst (λ (z : Bool). step t.place t.frame z k ≡ None) f (sym g
    ∙ h)) in
    let i' : y ≡ reason_of s.place s.frame (is_deep s) k =
    subst (λ (z : Standing). y ≡ reason_of z.place z.frame (is_deep s) k) e (subst (λ (z : Bool).
    y ≡ reason_of t.place t.frame z k) f i) in
    subst (λ (z : ℕ). FirstFault n (ks ++ k ∷ us) z y) (sym j) (subst (λ (z : SynWhy).
    FirstFault n (ks ++ k ∷ us) (length ks) z) (sym i') (refused-at n ks es s k us r h'))

pub taken-by : (n : ℕ) (ks : List Kind) (es : List Event) (s t u : Standing) (k : Kind) (deep : Bool)
    (o : Option Action) (a : Action) (q : ℕ) → IsRead n ks es s → t ≡ s → deep ≡ is_deep s
    → o ≡ step t.place t.frame deep k → o ≡ Some a → u ≡ moved a.go s → q ≡ length ks
    → IsRead n (ks ++ k ∷ []) (es ++ kept_as a.keep q k) u
taken-by n ks es s t u k deep o a q r e f g h i j =
    let h' : action_at s k ≡ Some a = subst (λ (z : Standing).
    step z.place z.frame (is_deep s) k ≡ Some a) e (subst (λ (z : Bool). step t.place t.frame z k ≡ Some a) f (sym g
    ∙ h)) in
    rw (j, i) (one_read k a r h')
