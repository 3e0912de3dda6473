-- Tokens have one list that is kept of them, or one first fault.
use Rattle.std.proofs.Common.{arith, ◌≡◌, ℕ, zero, suc, ◌+◌, ◌<◌, Bool, true, false, List, [], ◌∷◌, ◌++◌, length, take}
use Rattle.std.proofs.Common.{drop, get_or, Option, Some, None, Result, Ok, Err, Vec, Global, IfOk, IfErr, IsErrAnd}
use Rattle.std.proofs.Common.{MatchResult, refl, sym, subst, ◌∙◌, inl, inr, ◌⊎◌}
use Rattle.std.proofs.lemmas.Bool.{cases_lt}
use Rattle.wc_syntax.specs.declared.kind.Kind.{Kind}
use Rattle.wc_syntax.specs.declared.kind.Kind.TheVariants as kind
use Rattle.wc_syntax.specs.declared.why.SynWhy.{SynWhy}
use Rattle.wc_syntax.specs.declared.why.SynWhy.TheVariants as why
use Rattle.wc_syntax.specs.declared.place.Place.{Place}
use Rattle.wc_syntax.specs.declared.place.Place.TheVariants as place
use Rattle.wc_syntax.specs.declared.place.Frame.{Frame}
use Rattle.wc_syntax.specs.declared.place.Frame.TheVariants as frame
use Rattle.wc_syntax.specs.declared.place.Move.{Move}
use Rattle.wc_syntax.specs.declared.place.Move.TheVariants.{On, Past, Turn, Into, Out}
use Rattle.wc_syntax.specs.declared.place.Action.{Action}
use Rattle.wc_syntax.specs.declared.kept.Kept.{Kept}
use Rattle.wc_syntax.specs.declared.refusal.Refusal.{Refusal}
use Rattle.wc_syntax.specs.declared.refusal.Refusal.TheVariants as refusal
use Rattle.wc_syntax.specs.Standard.Phrases.{Terminal, word, The, text}
use Rattle.wc_syntax.specs.Standard.Deriving.{Item, at, numbered, Event, Begins}
use Rattle.wc_syntax.specs.Standard.Reasons.{wrong, Why, ReasonAt, FirstFault}
use Rattle.wc_syntax.specs.Standard.Parsing.{events, IsText, IsRefusal}
use Rattle.wc_syntax.specs.Tables.Table.{resume, step, is_end}
use Rattle.wc_syntax.proofs.Stacks.Run.{derives-begins}
use Rattle.wc_syntax.proofs.Stacks.Shorter.{begins-front, take-longer}
use Rattle.wc_syntax.proofs.Tabled.Agreement.{limit-reached}
use Rattle.wc_syntax.proofs.Parser.States.{up, Reached, reached-first, Next, next, keeps-one}
use Rattle.wc_syntax.proofs.Stacks.Ends.{numbered-length, one-more, all-of-it, fault-here, fault-end, accepted}
use Rattle.wc_syntax.proofs.Stacks.Ends.{only-this}

-- these are kept, and nothing else is
pub record Parsed (d : ℕ) (ks : List Kind) (es : List Event) : Type 0 where
  pub derives : IsText d ks es
  pub only : (fs : List Event) → IsText d ks fs → fs ≡ es

-- ---- one or the other

abbrev pub Judged : ℕ → List Kind → Type 0
Judged n ks = ((es : List Event) × Parsed n ks es) ⊎ ((p : ℕ) × (r : SynWhy) × FirstFault n ks p r)

pub parsed : (n : ℕ) (ks : List Kind) (d : ℕ) (p : Place) (b : Frame) (bs : List Frame) (e : List Event)
    → Reached n (numbered 0 ks) d p b bs e → is_end p b ≡ true → Parsed n ks e
parsed n ks d p b bs e r h = record {
  derives = accepted n (numbered 0 ks) d p b bs e r h;
  only =
      only-this n (numbered 0 ks) d p b bs e r;
}

judged-end : (n : ℕ) (ks : List Kind) (q d : ℕ) (p : Place) (b : Frame) (bs : List Frame) (e : List Event)
    → q ≡ length ks → Reached n (take q (numbered 0 ks)) d p b bs e → (z : Bool) → is_end p b ≡ z → Judged n ks
judged-end n ks q d p b bs e l r true h =
    inl (
      e,
      parsed n ks d p b bs e (subst (λ (w : List Item).
          Reached n w d p b bs e) (all-of-it ks q (omega (arith, l))) r) h,
    )
judged-end n ks q d p b bs e l r false h = inr (q, why.End, fault-end n ks q d p b bs e l r h)

-- the state behind one more token is judged
abbrev Goes : ℕ → List Kind → ℕ → Type 0
Goes n ks q = (d : ℕ) (p : Place) (b : Frame) (bs : List Frame) (e : List Event)
    → Reached n (take q (numbered 0 ks)) d p b bs e → Judged n ks

later : (n : ℕ) (ks : List Kind) (q d : ℕ) (b : Frame) (bs : List Frame) (f : List Event) (g : Move) → Goes n ks q
    → Next n (take q (numbered 0 ks)) d b bs f g → Judged n ks
later n ks q d b bs f (On x) go w = go d x b bs f w
later n ks q d b bs f (Past x) go w = go d x (resume b) bs f w
later n ks q d b bs f (Turn x c) go w = go d x c bs f w
later n ks q d b bs f (Into x c) go (u, w) = go u x c (resume b ∷ bs) f w
later n ks q d b bs f (Out x) go (c, cs, h, w) = go (up c d) x c cs f w

judged-step : (n : ℕ) (ks : List Kind) (q d : ℕ) (p : Place) (b : Frame) (bs : List Frame) (e : List Event)
    → q < length ks → Reached n (take q (numbered 0 ks)) d p b bs e → Goes n ks (q + 1) → (o : Option Action)
    → step p b (limit-reached d) (get_or ks q kind.Open) ≡ o → Judged n ks
judged-step n ks q d p b bs e l r go None h = inr (q, _, fault-here n ks q kind.Open d p b bs e l r h)
judged-step n ks q d p b bs e l r go (Some a) h =
    later n ks (q + 1) d b bs (e ++ keeps-one a.keep (at q (word (get_or ks q kind.Open)))) a.go go
    (rw (one-more ks q kind.Open l) (next n (take q (numbered 0 ks)) d p b bs e (at q (word (get_or ks q kind.Open))) a
    r h))

judged-from : (n : ℕ) (ks : List Kind) (m q d : ℕ) (p : Place) (b : Frame) (bs : List Frame) (e : List Event)
    → q + m ≡ length ks → Reached n (take q (numbered 0 ks)) d p b bs e → Judged n ks
judged-from n ks zero q d p b bs e l r = judged-end n ks q d p b bs e (omega (arith, l)) r (is_end p b) refl
judged-from n ks (suc m) q d p b bs e l r =
    judged-step n ks q d p b bs e (omega (arith, l)) r
    (λ d' p' b' bs' e' w. judged-from n ks m (q + 1) d' p' b' bs' e' (omega (
      arith,
      l,
    )) w) (step p b (limit-reached d) (get_or ks q kind.Open)) refl

pub judged : (n : ℕ) (ks : List Kind) → Judged n ks
judged n ks = judged-from n ks (length ks) 0 n place.Done frame.Start [] [] (omega arith) (reached-first n)

pub always-one : (n : ℕ) (ks : List Kind) → ((es : List Event) × IsText n ks es)
    ⊎ ((p : ℕ) × (r : SynWhy) × FirstFault n ks p r)
always-one n ks = elim (judged n ks) [
  | inl (es, w) ↦ inl (es, w.derives)
  | inr w ↦ inr w
]

-- ---- never both, and at most one of each

pub not-both : (n : ℕ) (ks : List Kind) (es : List Event) (p : ℕ) (r : SynWhy) → IsText n ks es → FirstFault n ks p r
    → ⊥
not-both n ks es p r w f = elim (cases_lt p (length ks)) [
  | inl l ↦ f.here l (begins-front (derives-begins w) (p + 1))
  | inr l ↦ f.at_end (omega (arith, l, f.within)) es w
]

pub one-list : (n : ℕ) (ks : List Kind) (es fs : List Event) → IsText n ks es → IsText n ks fs → es ≡ fs
one-list n ks es fs v w = elim (judged n ks) [
  | inl (_, j) ↦ j.only es v ∙ sym (j.only fs w)
  | inr (p, r, f) ↦ absurd (not-both n ks es p r v f)
]

one-why : (may : Terminal → Type 0) (xs : List (SynWhy × Terminal)) (r s : SynWhy) → Why may xs r → Why may xs s → r ≡ s
one-why may [] r s v w = v ∙ sym w
one-why may (x ∷ xs) r s (inl v) (inl w) = v.0 ∙ sym w.0
one-why may (x ∷ xs) r s (inl v) (inr w) = absurd (w.0 v.1)
one-why may (x ∷ xs) r s (inr v) (inl w) = absurd (v.0 w.1)
one-why may (x ∷ xs) r s (inr v) (inr w) = one-why may xs r s v.1 w.1

one-reason : (n : ℕ) (ks : List Kind) (p : ℕ) (ls : List Kind) (r s : SynWhy) → ReasonAt n ks p ls r
    → ReasonAt n ks p ls s → r ≡ s
one-reason n ks p [] r s v w = v ∙ sym w
one-reason n ks p (k ∷ ls) r s v w = one-why _ (wrong k) r s v w

not-before : (n : ℕ) (ks : List Kind) (p q : ℕ) (r s : SynWhy) → FirstFault n ks p r → FirstFault n ks q s → p < q → ⊥
not-before n ks p q r s f g l =
    f.here (omega (arith, l, g.within)) (subst (λ (w : List Item).
    Begins (The (text n)) w) (take-longer (p + 1) q (numbered 0 ks) (omega (arith, l)) (omega (
      arith,
      g.within,
      numbered-length 0 ks,
    ))) (begins-front g.before (p + 1)))

pub one-place : (n : ℕ) (ks : List Kind) (p q : ℕ) (r s : SynWhy) → FirstFault n ks p r → FirstFault n ks q s → p ≡ q
one-place n ks p q r s f g = elim (cases_lt p q) [
  | inl l ↦ absurd (not-before n ks p q r s f g l)
  | inr l ↦ elim (cases_lt q p) [
    | inl k ↦ absurd (not-before n ks q p s r g f k)
    | inr k ↦ omega (arith, l, k)
  ]
]

pub one-fault : (n : ℕ) (ks : List Kind) (p q : ℕ) (r s : SynWhy) → FirstFault n ks p r → FirstFault n ks q s → (p ≡ q)
    × (r ≡ s)
one-fault n ks p q r s f g =
    let e = one-place n ks p q r s f g in
    (e, one-reason n ks p (drop p ks) r s f.reason (subst (λ (x : ℕ). ReasonAt n ks x (drop x ks) s) (sym e) g.reason))

-- ---- so what is answered is all that could be

abbrev pub Answers : ℕ → List Kind → Result (Vec Kept Global) Refusal → Type 0
Answers n ks result = MatchResult result (λ v. IsText n ks (events v.items)) (λ r. IsRefusal n ks r)

pub answers-kept : (n : ℕ) (ks : List Kind) (result : Result (Vec Kept Global) Refusal) → Answers n ks result
    → IfOk result (λ v. IsText n ks (events v.items))
answers-kept n ks (Ok v) a = a
answers-kept n ks (Err r) a = tt

pub answers-refusal : (n : ℕ) (ks : List Kind) (result : Result (Vec Kept Global) Refusal) → Answers n ks result
    → IfErr result (λ r. IsRefusal n ks r)
answers-refusal n ks (Ok v) a = tt
answers-refusal n ks (Err r) a = a

pub only-kept : (n : ℕ) (ks : List Kind) (result : Result (Vec Kept Global) Refusal) → Answers n ks result
    → (es : List Event) → IsText n ks es → MatchResult result (λ v. events v.items ≡ es) (λ r. r ≡ refusal.Memory)
only-kept n ks (Ok v) a es w = one-list n ks (events v.items) es a w
only-kept n ks (Err refusal.Memory) a es w = refl
only-kept n ks (Err (refusal.Bad p r)) a es w = absurd (not-both n ks es p r w a)

pub only-fault : (n : ℕ) (ks : List Kind) (result : Result (Vec Kept Global) Refusal) → Answers n ks result
    → (p : ℕ) (r : SynWhy) → FirstFault n ks p r → IsErrAnd result (λ f. (f ≡ refusal.Bad p r) ⊎ (f ≡ refusal.Memory))
only-fault n ks (Ok v) a p r f = absurd (not-both n ks (events v.items) p r a f)
only-fault n ks (Err refusal.Memory) a p r f = inr refl
only-fault n ks (Err (refusal.Bad q s)) a p r f = let w = one-fault n ks q p s r a f in inl (cc (w.0, w.1))
