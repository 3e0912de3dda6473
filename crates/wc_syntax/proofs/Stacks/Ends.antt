-- What the stacks say where no token is left, and whole texts.
use Rattle.std.proofs.Common.{arith, ◌≡◌, ◌≤◌, ◌<◌, ℕ, zero, suc, ◌+◌, true, false, List, [], ◌∷◌, ◌++◌, length, take}
use Rattle.std.proofs.Common.{get_or, Option, Some, None, refl, sym, ap, subst, ◌∙◌, append-nil, inl, inr, ◌⊎◌}
use Rattle.std.proofs.lemmas.List.{take_more, take_all, drop_all, length-take-le}
use Rattle.std.proofs.Math.Seq.{drop-cons}
use Rattle.wc_syntax.specs.declared.kind.Kind.{Kind}
use Rattle.wc_syntax.specs.declared.role.Role.{Role}
use Rattle.wc_syntax.specs.declared.why.SynWhy.{SynWhy}
use Rattle.wc_syntax.specs.declared.why.SynWhy.TheVariants as why
use Rattle.wc_syntax.specs.declared.place.Place.{Place}
use Rattle.wc_syntax.specs.declared.place.Frame.{Frame}
use Rattle.wc_syntax.specs.declared.place.Action.{Action}
use Rattle.wc_syntax.specs.declared.place.Move.{Move}
use Rattle.wc_syntax.specs.declared.place.Move.TheVariants.{On, Past, Turn, Into, Out}
use Rattle.wc_syntax.specs.Standard.Phrases.{Terminal, word, Nonterminal, Phrase, Empty, Token, Keep, ◌·◌, ◌∣◌, Many}
use Rattle.wc_syntax.specs.Standard.Phrases.{The, text}
use Rattle.wc_syntax.specs.Standard.Grammar.{body}
use Rattle.wc_syntax.specs.Standard.Deriving.{Item, at, terminal_of, numbered, Event, Derives, Begins}
use Rattle.wc_syntax.specs.Standard.Reasons.{wrong, Why, ReasonAt, FirstFault}
use Rattle.wc_syntax.specs.Tables.Table.{resume, step, leads_to, is_end, first_reason, where_stands, reason_of}
use Rattle.wc_syntax.proofs.Stacks.Run.{Whole, Cut, Run, end, r-empty, r-left, r-right, r-none, r-more, r-rule, derived}
use Rattle.wc_syntax.proofs.Stacks.Run.{begun, sentence, front}
use Rattle.wc_syntax.proofs.Stacks.Edges.{Edges, deep, edges, either, on, edges-of, on-out, on-back}
use Rattle.wc_syntax.proofs.Tabled.Places.{edges-all, means, fuel}
use Rattle.wc_syntax.proofs.Tabled.Agreement.{limit-reached}
use Rattle.wc_syntax.proofs.Parser.Machine.{Reads, ends-so}
use Rattle.wc_syntax.proofs.Parser.States.{up, Reached, keeps-one, Next, next, refused, begins-so, under, ends-nothing}

-- passed by with no token
abbrev EndOut : Edges → List Phrase → List Event → Type 0
EndOut deep k es = Unit {0}
EndOut (edges xs p) k es = (p ≡ true) × Run Whole k [] es

abbrev EndIn : Edges → List Phrase → List Event → Type 0
EndIn deep k es = ⊥
EndIn (edges xs p) k es = (p ≡ true) × Run Whole k [] es

end-left : (x y : Edges) (k : List Phrase) (es : List Event) → EndOut x k es → EndOut (either x y) k es
end-left deep y k es h = tt
end-left (edges xs p) deep k es h = tt
end-left (edges xs true) (edges ys q) k es h = h
end-left (edges xs false) (edges ys q) k es h = absurd (let e = h.0 in cc)

end-right : (x y : Edges) (k : List Phrase) (es : List Event) → EndOut y k es → EndOut (either x y) k es
end-right deep y k es h = tt
end-right (edges xs p) deep k es h = tt
end-right (edges xs true) (edges ys q) k es h = (refl, h.1)
end-right (edges xs false) (edges ys q) k es h = h

end-split : (x y : Edges) (k : List Phrase) (es : List Event) → EndIn (either x y) k es → EndIn x k es ⊎ EndIn y k es
end-split deep y k es h = elim h [ ]
end-split (edges xs p) deep k es h = elim h [ ]
end-split (edges xs true) (edges ys q) k es h = inl h
end-split (edges xs false) (edges ys q) k es h = inr h

empty-end : {k : List Phrase} {es : List Event} → Run Whole (Empty ∷ k) [] es → Run Whole k [] es
empty-end (r-empty r) = r

or-end : {a b : Phrase} {k : List Phrase} {es : List Event} → Run Whole ((a ∣ b) ∷ k) [] es → Run Whole (a ∷ k) [] es
    ⊎ Run Whole (b ∷ k) [] es
or-end (r-left r) = inl r
or-end (r-right r) = inr r

many-end : {a : Phrase} {k : List Phrase} {es : List Event} → Run Whole (Many a ∷ k) [] es → Run Whole k [] es
    ⊎ Run Whole (a ∷ Many a ∷ k) [] es
many-end (r-none r) = inl r
many-end (r-more r) = inr r

rule-end : {n : Nonterminal} {k : List Phrase} {es : List Event} → Run Whole (The n ∷ k) [] es
    → Run Whole (body n ∷ k) [] es
rule-end (r-rule r) = r

no-token : {c : Terminal} {k : List Phrase} {es : List Event} {A : Type 0} → Run Whole (Token c ∷ k) [] es → A
no-token r = elim r [ ]

no-keeps : {o : Role} {c : Kind} {k : List Phrase} {es : List Event} {A : Type 0} → Run Whole (Keep o c ∷ k) [] es → A
no-keeps r = elim r [ ]

end-out : (d : ℕ) (s k : List Phrase) (es : List Event) → Run Whole (s ++ k) [] es → EndOut (edges-of d s) k es
end-out zero s k es r = tt
end-out (suc d) [] k es r = (refl, r)
end-out (suc d) (Empty ∷ s) k es r = end-out d s k es (empty-end r)
end-out (suc d) (Token c ∷ s) k es r = no-token r
end-out (suc d) (Keep o c ∷ s) k es r = no-keeps r
end-out (suc d) ((a · b) ∷ s) k es r = end-out d (on a (on b s)) k es (on-out (a · b) s k [] es r)
end-out (suc d) ((a ∣ b) ∷ s) k es r = elim (or-end r) [
  | inl q ↦ end-left (edges-of d (on a s)) (edges-of d (on b s)) k es (end-out d (on a s) k es (on-out a s k [] es q))
  | inr q ↦ end-right (edges-of d (on a s)) (edges-of d (on b s)) k es (end-out d (on b s) k es (on-out b s k [] es q))
]
end-out (suc d) (Many a ∷ s) k es r = elim (many-end r) [
  | inl q ↦ end-left (edges-of d s) (edges-of d (on a (Many a ∷ s))) k es (end-out d s k es q)
  | inr q ↦ end-right (edges-of d s) (edges-of d (on a (Many a ∷ s))) k es (end-out d (on a (Many a
      ∷ s)) k es (on-out a (Many a ∷ s) k [] es q))
]
end-out (suc d) (The n ∷ s) k es r = end-out d (on (body n) s) k es (on-out (body n) s k [] es (rule-end r))

end-in : (d : ℕ) (s k : List Phrase) (es : List Event) → EndIn (edges-of d s) k es → Run Whole (s ++ k) [] es
end-in zero s k es h = elim h [ ]
end-in (suc d) [] k es h = h.1
end-in (suc d) (Empty ∷ s) k es h = r-empty (end-in d s k es h)
end-in (suc d) (Token c ∷ s) k es h = absurd (let e = h.0 in cc)
end-in (suc d) (Keep o c ∷ s) k es h = absurd (let e = h.0 in cc)
end-in (suc d) ((a · b) ∷ s) k es h = on-back (a · b) s k [] es (end-in d (on a (on b s)) k es h)
end-in (suc d) ((a ∣ b) ∷ s) k es h = elim (end-split (edges-of d (on a s)) (edges-of d (on b s)) k es h) [
  | inl q ↦ r-left (on-back a s k [] es (end-in d (on a s) k es q))
  | inr q ↦ r-right (on-back b s k [] es (end-in d (on b s) k es q))
]
end-in (suc d) (Many a ∷ s) k es h = elim (end-split (edges-of d s) (edges-of d (on a (Many a ∷ s))) k es h) [
  | inl q ↦ r-none (end-in d s k es q)
  | inr q ↦ r-more (on-back a (Many a ∷ s) k [] es (end-in d (on a (Many a ∷ s)) k es q))
]
end-in (suc d) (The n ∷ s) k es h = r-rule (on-back (body n) s k [] es (end-in d (on (body n) s) k es h))

all-end-out : (d : ℕ) (ss : List (List Phrase)) (k : List Phrase) (es : List Event) → Reads Whole ss k [] es
    → EndOut (edges-all d ss) k es
all-end-out d [] k es h = elim h [ ]
all-end-out d (s ∷ ss) k es (inl r) = end-left (edges-of d s) (edges-all d ss) k es (end-out d s k es r)
all-end-out d (s ∷ ss) k es (inr h) = end-right (edges-of d s) (edges-all d ss) k es (all-end-out d ss k es h)

all-end-in : (d : ℕ) (ss : List (List Phrase)) (k : List Phrase) (es : List Event) → EndIn (edges-all d ss) k es
    → Reads Whole ss k [] es
all-end-in d [] k es h = absurd (let e = h.0 in cc)
all-end-in d (s ∷ ss) k es h = elim (end-split (edges-of d s) (edges-all d ss) k es h) [
  | inl q ↦ inl (end-in d s k es q)
  | inr q ↦ inr (all-end-in d ss k es q)
]

nothing-more : {es : List Event} → Run Whole [] [] es → es ≡ []
nothing-more end = refl

-- ---- whole texts

module _ (n : ℕ) (xs : List Item) (d : ℕ) (p : Place) (b : Frame) (bs : List Frame) (e : List Event)
    (r : Reached n xs d p b bs e) where
  ended : (es : List Event) → Derives (The (text n)) xs es → (is_end p b ≡ true) × (es ≡ e)
  ended es h =
      let w = derived h Whole [] [] [] end in
      let (fs, f, q) = r.leads.on Whole [] (es ++ []) w in
      let v = subst (λ (x : Edges). EndOut x (under d bs) fs) (ends-so d p b r.is-valid)
      (all-end-out fuel (means d p b) (under d bs) fs q) in
      let k = ends-nothing d p b bs r.bottom v.0 in (
        v.0,
        sym (append-nil es) ∙ f ∙ ap (λ (y : List Event).
            e ++ y) (nothing-more (subst (λ (y : List Phrase). Run Whole y [] fs) k v.1)) ∙ append-nil e,
      )

  pub unfinished : is_end p b ≡ false → (es : List Event) → Derives (The (text n)) xs es → ⊥
  unfinished f es h = let w = ended es h in absurd (let g = w.0 in cc)

  pub only-this : (es : List Event) → Derives (The (text n)) xs es → es ≡ e
  only-this es h = (ended es h).1

  pub accepted : is_end p b ≡ true → Derives (The (text n)) xs e
  accepted f =
      let k = ends-nothing d p b bs r.bottom f in
      let h = all-end-in fuel (means d p b) (under d bs) [] (subst (λ (x : Edges).
      EndIn x (under d bs) []) (sym (ends-so d p b r.is-valid)) (
        f,
        subst (λ (y : List Phrase). Run Whole y [] []) (sym k) end,
      )) in
      sentence (subst (λ (y : List Item). Run Whole (The (text n) ∷ []) y e) (append-nil xs) (subst (λ (y : List Event).
      Run Whole (The (text n) ∷ []) (xs ++ []) y) (append-nil e) (r.leads.back Whole [] [] h)))

  pub begins : Begins (The (text n)) xs
  begins = front (begins-so n xs d p b bs e r).1

  pub may-not : (i : Item) → leads_to p b (limit-reached d) (terminal_of i) ≡ None
      → Begins (The (text n)) (xs ++ i ∷ []) → ⊥
  may-not i h q = let w = begun q [] in refused n xs d p b bs e i r h Cut [] w.0 w.1

next-begins : (n : ℕ) (xs : List Item) (d : ℕ) (b : Frame) (bs : List Frame) (e : List Event) (g : Move)
    → Next n xs d b bs e g → Begins (The (text n)) xs
next-begins n xs d b bs e (On p) w = begins n xs d p b bs e w
next-begins n xs d b bs e (Past p) w = begins n xs d p (resume b) bs e w
next-begins n xs d b bs e (Turn p c) w = begins n xs d p c bs e w
next-begins n xs d b bs e (Into p c) (f, w) = begins n xs f p c (resume b ∷ bs) e w
next-begins n xs d b bs e (Out p) (c, cs, h, w) = begins n xs (up c d) p c cs e w

-- ---- reasons

module _ (n : ℕ) (xs : List Item) (d : ℕ) (p : Place) (b : Frame) (bs : List Frame) (e : List Event)
    (r : Reached n xs d p b bs e) where
  may : (i : Item) (a : Action) → leads_to p b (limit-reached d) (terminal_of i) ≡ Some a
      → Begins (The (text n)) (xs ++ i ∷ [])
  may i a h = next-begins n (xs ++ i ∷ []) d b bs (e ++ keeps-one a.keep i) a.go (next n xs d p b bs e i a r h)

  abbrev MayThere : ℕ → Terminal → Type 0
  MayThere q c = Begins (The (text n)) (xs ++ at q c ∷ [])

  reasoned : (q : ℕ) (ks : List (SynWhy × Terminal)) → Why (MayThere q) ks (first_reason p b (limit-reached d) ks)
  reasoned q [] = refl
  reasoned q (x ∷ ks) = by-step (reasoned q ks) (leads_to p b (limit-reached d) x.1) refl
    where
      by-step : Why (MayThere q) ks (first_reason p b (limit-reached d) ks) → (o : Option Action)
          → leads_to p b (limit-reached d) x.1 ≡ o
          → Why (MayThere q) (x ∷ ks) (where_stands (leads_to p b (limit-reached d) x.1) x.0
          (first_reason p b (limit-reached d) ks))
      by-step more (Some a) h = inl (
        ap (λ (y : Option Action).
            where_stands y x.0 (first_reason p b (limit-reached d) ks)) h,
        may (at q x.1) a h,
      )
      by-step more None h = inr (
        may-not n xs d p b bs e r (at q x.1) h,
        subst (λ (y : Option Action). Why (MayThere q) ks (where_stands y x.0
            (first_reason p b (limit-reached d) ks))) (sym h) more,
      )

-- ---- lists of tokens

pub take-numbered : (n i : ℕ) (ts : List Kind) → take i (numbered n ts) ≡ numbered n (take i ts)
take-numbered n zero ts = refl
take-numbered n (suc i) [] = refl
take-numbered n (suc i) (t ∷ ts) = ap (λ (w : List Item). at n (word t) ∷ w) (take-numbered (suc n) i ts)

pub numbered-more : (n : ℕ) (ts : List Kind) (s : Kind)
    → numbered n (ts ++ s ∷ []) ≡ numbered n ts ++ at (n + length ts) (word s) ∷ []
numbered-more n [] s = let e : n ≡ n + 0 = omega arith in ap (λ (k : ℕ). at k (word s) ∷ []) e
numbered-more n (t ∷ ts) s = let e : suc n + length ts ≡ n + suc (length ts) = omega arith in
    ap (λ (w : List Item). at n (word t) ∷ w) (numbered-more (suc n) ts s
    ∙ ap (λ (k : ℕ). numbered (suc n) ts ++ at k (word s) ∷ []) e)

pub numbered-length : (n : ℕ) (ts : List Kind) → length (numbered n ts) ≡ length ts
numbered-length n [] = refl
numbered-length n (t ∷ ts) = ap suc (numbered-length (suc n) ts)

pub one-more : (ts : List Kind) (q : ℕ) (s : Kind) → q < length ts
    → take (q + 1) (numbered 0 ts) ≡ take q (numbered 0 ts) ++ at q (word (get_or ts q s)) ∷ []
one-more ts q s l =
    take-numbered 0 (q + 1) ts ∙ ap (λ (w : List Kind). numbered 0 w) (take_more ts q s l)
    ∙ numbered-more 0 (take q ts) (get_or ts q s)
    ∙ ap (λ (k : ℕ). numbered 0 (take q ts) ++ at k (word (get_or ts q s)) ∷ []) (let e : 0 + length (take q ts) ≡ q =
    omega (arith, length-take-le q ts (omega arith)) in e)
    ∙ ap (λ (w : List Item). w ++ at q (word (get_or ts q s)) ∷ []) (sym (take-numbered 0 q ts))

pub all-of-it : (ts : List Kind) (q : ℕ) → length ts ≤ q → take q (numbered 0 ts) ≡ numbered 0 ts
all-of-it ts q l = take_all q (numbered 0 ts) (omega (arith, numbered-length 0 ts))

-- ---- the fault

pub fault-here : (n : ℕ) (ts : List Kind) (q : ℕ) (s : Kind) (d : ℕ) (p : Place) (b : Frame) (bs : List Frame)
    (e : List Event) → q < length ts → Reached n (take q (numbered 0 ts)) d p b bs e
    → step p b (limit-reached d) (get_or ts q s) ≡ None
    → FirstFault n ts q (reason_of p b (limit-reached d) (get_or ts q s))
fault-here n ts q s d p b bs e l r h = record {
  within = omega arith;
  before = begins n (take q (numbered 0 ts)) d p b bs e r;
  here = λ _ w. may-not n (take q (numbered 0 ts)) d p b bs e r (at q (word (get_or ts q s))) h
      (subst (λ (y : List Item). Begins (The (text n)) y) (one-more ts q s l) w);
  at_end = λ g es w. absurd (omega arith);
  reason = subst (λ (y : List Kind). ReasonAt n ts q y (reason_of p b (limit-reached d) (get_or ts q s)))
      (sym (drop-cons ts q s l)) (reasoned n (take q (numbered 0 ts)) d p b bs e r q (wrong (get_or ts q s)));
}

pub fault-end : (n : ℕ) (ts : List Kind) (q : ℕ) (d : ℕ) (p : Place) (b : Frame) (bs : List Frame) (e : List Event)
    → q ≡ length ts → Reached n (take q (numbered 0 ts)) d p b bs e → is_end p b ≡ false → FirstFault n ts q why.End
fault-end n ts q d p b bs e l r h = record {
  within = omega arith;
  before = begins n (take q (numbered 0 ts)) d p b bs e r;
  here = λ g w. absurd (omega arith);
  at_end = λ _ es w. unfinished n (take q (numbered 0 ts)) d p b bs e r h es (subst (λ (y : List Item).
      Derives (The (text n)) y es) (sym (all-of-it ts q (omega arith))) w);
  reason = subst (λ (y : List Kind). ReasonAt n ts q y why.End) (sym (drop_all q ts (omega arith))) refl;
}
