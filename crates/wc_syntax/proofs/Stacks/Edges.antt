-- What a stack of phrases can do with the next token: its edges, computed without the token.
use Rattle.std.proofs.Common.{◌≡◌, ℕ, zero, suc, Bool, true, false, List, [], ◌∷◌, ◌++◌, Option, Some, None, refl, sym}
use Rattle.std.proofs.Common.{subst, inl, inr, ◌⊎◌}
use Rattle.std.specs.Prelude.{◌||◌}
use Rattle.wc_syntax.specs.declared.kind.Kind.{Kind}
use Rattle.wc_syntax.specs.declared.role.Role.{Role}
use Rattle.wc_syntax.specs.Standard.Phrases.{Terminal, word, Nonterminal, Phrase, Empty, Token, Keep, ◌·◌, ◌∣◌, Many}
use Rattle.wc_syntax.specs.Standard.Phrases.{The}
use Rattle.wc_syntax.specs.Standard.Grammar.{body}
use Rattle.wc_syntax.specs.Standard.Deriving.{Item, terminal_of, Event, kept}
use Rattle.wc_syntax.proofs.Stacks.Run.{Mode, Run, end, cut, r-empty, r-token, r-keeps, r-then, r-left, r-right, r-none}
use Rattle.wc_syntax.proofs.Stacks.Run.{r-more, r-rule}

-- a token of this kind is taken, it is kept in this role, and this stack is left
pub data Edge : Type 0 where
  edge : Terminal → Option Role → List Phrase → Edge

-- the edges of a stack; and whether it may be left without a token. Deep: the fuel was too little.
pub data Edges : Type 0 where
  deep : Edges
  edges : List Edge → Bool → Edges

abbrev pub either : Edges → Edges → Edges
either deep y = deep
either (edges xs p) deep = deep
either (edges xs p) (edges ys q) = edges (xs ++ ys) (p || q)

-- a phrase on top of a stack, sequences taken apart
abbrev pub on : Phrase → List Phrase → List Phrase
on Empty s = Empty ∷ s
on (Token c) s = Token c ∷ s
on (Keep r c) s = Keep r c ∷ s
on (a · b) s = on a (on b s)
on (a ∣ b) s = (a ∣ b) ∷ s
on (Many a) s = Many a ∷ s
on (The n) s = The n ∷ s

abbrev pub edges-of : ℕ → List Phrase → Edges
edges-of zero s = deep
edges-of (suc d) [] = edges [] true
edges-of (suc d) (Empty ∷ s) = edges-of d s
edges-of (suc d) (Token c ∷ s) = edges (edge c None s ∷ []) false
edges-of (suc d) (Keep r c ∷ s) = edges (edge (word c) (Some r) s ∷ []) false
edges-of (suc d) ((a · b) ∷ s) = edges-of d (on a (on b s))
edges-of (suc d) ((a ∣ b) ∷ s) = either (edges-of d (on a s)) (edges-of d (on b s))
edges-of (suc d) (Many a ∷ s) = either (edges-of d s) (edges-of d (on a (Many a ∷ s)))
edges-of (suc d) (The n ∷ s) = edges-of d (on (body n) s)

-- ---- a stack taken apart reads the same

-- what stands below may be exchanged
below : {m : Mode} (k j : List Phrase) → ((us : List Item) (es : List Event) → Run m k us es → Run m j us es)
    → {q : List Phrase} {us : List Item} {es : List Event} → Run m q us es → (p : List Phrase) → q ≡ p ++ k
    → Run m (p ++ j) us es
below {m = m} k j f {us = us} {es = es} r [] e = f us es (subst (λ (y : List Phrase). Run m y us es) e r)
below k j f end (x ∷ p) e = absurd cc
below k j f cut (x ∷ p) e = cut
below k j f (r-empty {m = w} {us = us} {es = es} r) (x ∷ p) e =
    let h : Empty ≡ x = cc in subst (λ (y : Phrase). Run w (y ∷ p ++ j) us es) h (r-empty (below k j f r p cc))
below k j f (r-token {m = w} {c = c} {i = i} {us = us} {es = es} g r) (x ∷ p) e =
    let h : Token c ≡ x = cc in subst (λ (y : Phrase).
    Run w (y ∷ p ++ j) (i ∷ us) es) h (r-token g (below k j f r p cc))
below k j f (r-keeps {m = w} {r = o} {c = c} {i = i} {us = us} {es = es} g r) (x ∷ p) e =
    let h : Keep o c ≡ x = cc in subst (λ (y : Phrase).
    Run w (y ∷ p ++ j) (i ∷ us) (kept o i ∷ es)) h (r-keeps g (below k j f r p cc))
below k j f (r-then {m = w} {a = a} {b = b} {us = us} {es = es} r) (x ∷ p) e =
    let h : (a · b) ≡ x = cc in subst (λ (y : Phrase).
    Run w (y ∷ p ++ j) us es) h (r-then (below k j f r (a ∷ b ∷ p) cc))
below k j f (r-left {m = w} {a = a} {b = b} {us = us} {es = es} r) (x ∷ p) e =
    let h : (a ∣ b) ≡ x = cc in subst (λ (y : Phrase). Run w (y ∷ p ++ j) us es) h (r-left (below k j f r (a ∷ p) cc))
below k j f (r-right {m = w} {a = a} {b = b} {us = us} {es = es} r) (x ∷ p) e =
    let h : (a ∣ b) ≡ x = cc in subst (λ (y : Phrase). Run w (y ∷ p ++ j) us es) h (r-right (below k j f r (b ∷ p) cc))
below k j f (r-none {m = w} {a = a} {us = us} {es = es} r) (x ∷ p) e =
    let h : Many a ≡ x = cc in subst (λ (y : Phrase). Run w (y ∷ p ++ j) us es) h (r-none (below k j f r p cc))
below k j f (r-more {m = w} {a = a} {us = us} {es = es} r) (x ∷ p) e =
    let h : Many a ≡ x = cc in subst (λ (y : Phrase).
    Run w (y ∷ p ++ j) us es) h (r-more (below k j f r (a ∷ Many a ∷ p) cc))
below k j f (r-rule {m = w} {n = n} {us = us} {es = es} r) (x ∷ p) e =
    let h : The n ≡ x = cc in subst (λ (y : Phrase).
    Run w (y ∷ p ++ j) us es) h (r-rule (below k j f r (body n ∷ p) cc))

then-out : {m : Mode} {a b : Phrase} {k : List Phrase} {us : List Item} {es : List Event} → Run m ((a · b) ∷ k) us es
    → Run m (a ∷ b ∷ k) us es
then-out (r-then r) = r
then-out cut = cut

pub on-out : {m : Mode} (a : Phrase) (s k : List Phrase) (us : List Item) (es : List Event) → Run m (a ∷ s ++ k) us es
    → Run m (on a s ++ k) us es
on-out (a · b) s k us es r =
    on-out a (on b s) k us es (below (b ∷ s ++ k) (on b s ++ k) (λ vs fs q. on-out b s k vs fs q) (then-out r) (a
    ∷ []) refl)
on-out a s k us es r = r

pub on-back : {m : Mode} (a : Phrase) (s k : List Phrase) (us : List Item) (es : List Event) → Run m (on a s ++ k) us es
    → Run m (a ∷ s ++ k) us es
on-back (a · b) s k us es r =
    r-then (below (on b s ++ k) (b ∷ s ++ k) (λ vs fs q. on-back b s k vs fs q) (on-back a (on b s) k us es r) (a
    ∷ []) refl)
on-back a s k us es r = r

-- ---- what a stack reads, it reads along one of its edges

abbrev pub keep : Option Role → Item → List Event → List Event
keep None i es = es
keep (Some r) i es = kept r i ∷ es

-- along this edge, over the stack k
abbrev pub Along : Mode → Edge → List Phrase → Item → List Item → List Event → Type 0
Along m (edge c o s) k i us es = (terminal_of i ≡ c) × ((fs : List Event) × (es ≡ keep o i fs) × Run m (s ++ k) us fs)

abbrev pub AlongAny : Mode → List Edge → List Phrase → Item → List Item → List Event → Type 0
AlongAny m [] k i us es = ⊥
AlongAny m (x ∷ xs) k i us es = Along m x k i us es ⊎ AlongAny m xs k i us es

any-left : (m : Mode) (xs ys : List Edge) (k : List Phrase) (i : Item) (us : List Item) (es : List Event)
    → AlongAny m xs k i us es → AlongAny m (xs ++ ys) k i us es
any-left m (x ∷ xs) ys k i us es (inl h) = inl h
any-left m (x ∷ xs) ys k i us es (inr h) = inr (any-left m xs ys k i us es h)
any-left m [] ys k i us es h = elim h [ ]

any-right : (m : Mode) (xs ys : List Edge) (k : List Phrase) (i : Item) (us : List Item) (es : List Event)
    → AlongAny m ys k i us es → AlongAny m (xs ++ ys) k i us es
any-right m [] ys k i us es h = h
any-right m (x ∷ xs) ys k i us es h = inr (any-right m xs ys k i us es h)

any-split : (m : Mode) (xs ys : List Edge) (k : List Phrase) (i : Item) (us : List Item) (es : List Event)
    → AlongAny m (xs ++ ys) k i us es → AlongAny m xs k i us es ⊎ AlongAny m ys k i us es
any-split m [] ys k i us es h = inr h
any-split m (x ∷ xs) ys k i us es (inl h) = inl (inl h)
any-split m (x ∷ xs) ys k i us es (inr h) = elim (any-split m xs ys k i us es h) [ inl p ↦ inl (inr p) | inr q ↦ inr q ]

-- along an edge, or all of it passed by
abbrev pub Out : Mode → Edges → List Phrase → Item → List Item → List Event → Type 0
Out m deep k i us es = Unit {0}
Out m (edges xs p) k i us es = AlongAny m xs k i us es ⊎ ((p ≡ true) × Run m k (i ∷ us) es)

abbrev pub In : Mode → Edges → List Phrase → Item → List Item → List Event → Type 0
In m deep k i us es = ⊥
In m (edges xs p) k i us es = AlongAny m xs k i us es ⊎ ((p ≡ true) × Run m k (i ∷ us) es)

or-first : (p q : Bool) → p ≡ true → (p || q) ≡ true
or-first true q e = refl
or-first false q e = absurd cc

or-second : (p q : Bool) → q ≡ true → (p || q) ≡ true
or-second true q e = refl
or-second false q e = e

or-known : (p q : Bool) → (p || q) ≡ true → (p ≡ true) ⊎ (q ≡ true)
or-known true q e = inl refl
or-known false q e = inr e

pub out-left : (m : Mode) (x y : Edges) (k : List Phrase) (i : Item) (us : List Item) (es : List Event)
    → Out m x k i us es → Out m (either x y) k i us es
out-left m deep y k i us es h = tt
out-left m (edges xs p) deep k i us es h = tt
out-left m (edges xs p) (edges ys q) k i us es (inl h) = inl (any-left m xs ys k i us es h)
out-left m (edges xs p) (edges ys q) k i us es (inr h) = inr (or-first p q h.0, h.1)

pub out-right : (m : Mode) (x y : Edges) (k : List Phrase) (i : Item) (us : List Item) (es : List Event)
    → Out m y k i us es → Out m (either x y) k i us es
out-right m deep y k i us es h = tt
out-right m (edges xs p) deep k i us es h = tt
out-right m (edges xs p) (edges ys q) k i us es (inl h) = inl (any-right m xs ys k i us es h)
out-right m (edges xs p) (edges ys q) k i us es (inr h) = inr (or-second p q h.0, h.1)

pub in-split : (m : Mode) (x y : Edges) (k : List Phrase) (i : Item) (us : List Item) (es : List Event)
    → In m (either x y) k i us es → In m x k i us es ⊎ In m y k i us es
in-split m deep y k i us es h = elim h [ ]
in-split m (edges xs p) deep k i us es h = elim h [ ]
in-split m (edges xs p) (edges ys q) k i us es (inl h) =
    elim (any-split m xs ys k i us es h) [ inl a ↦ inl (inl a) | inr b ↦ inr (inl b) ]
in-split m (edges xs p) (edges ys q) k i us es (inr h) =
    elim (or-known p q h.0) [ inl a ↦ inl (inr (a, h.1)) | inr b ↦ inr (inr (b, h.1)) ]

token-out : {m : Mode} {c : Terminal} {k : List Phrase} {i : Item} {us : List Item} {es : List Event}
    → Run m (Token c ∷ k) (i ∷ us) es → (terminal_of i ≡ c) × Run m k us es
token-out (r-token h r) = (h, r)

keeps-out : {m : Mode} {o : Role} {c : Kind} {k : List Phrase} {i : Item} {us : List Item} {es : List Event}
    → Run m (Keep o c ∷ k) (i ∷ us) es → (terminal_of i ≡ word c)
    × ((fs : List Event) × (es ≡ kept o i ∷ fs) × Run m k us fs)
keeps-out (r-keeps {es = fs} h r) = (h, (fs, refl, r))

empty-out : {m : Mode} {k : List Phrase} {i : Item} {us : List Item} {es : List Event} → Run m (Empty ∷ k) (i ∷ us) es
    → Run m k (i ∷ us) es
empty-out (r-empty r) = r

or-out : {m : Mode} {a b : Phrase} {k : List Phrase} {i : Item} {us : List Item} {es : List Event}
    → Run m ((a ∣ b) ∷ k) (i ∷ us) es → Run m (a ∷ k) (i ∷ us) es ⊎ Run m (b ∷ k) (i ∷ us) es
or-out (r-left r) = inl r
or-out (r-right r) = inr r

many-out : {m : Mode} {a : Phrase} {k : List Phrase} {i : Item} {us : List Item} {es : List Event}
    → Run m (Many a ∷ k) (i ∷ us) es → Run m k (i ∷ us) es ⊎ Run m (a ∷ Many a ∷ k) (i ∷ us) es
many-out (r-none r) = inl r
many-out (r-more r) = inr r

rule-out : {m : Mode} {n : Nonterminal} {k : List Phrase} {i : Item} {us : List Item} {es : List Event}
    → Run m (The n ∷ k) (i ∷ us) es → Run m (body n ∷ k) (i ∷ us) es
rule-out (r-rule r) = r

pub edges-out : (d : ℕ) (m : Mode) (s k : List Phrase) (i : Item) (us : List Item) (es : List Event)
    → Run m (s ++ k) (i ∷ us) es → Out m (edges-of d s) k i us es
edges-out zero m s k i us es r = tt
edges-out (suc d) m [] k i us es r = inr (refl, r)
edges-out (suc d) m (Empty ∷ s) k i us es r = edges-out d m s k i us es (empty-out r)
edges-out (suc d) m (Token c ∷ s) k i us es r = let (h, q) = token-out r in inl (inl (h, (es, refl, q)))
edges-out (suc d) m (Keep o c ∷ s) k i us es r = inl (inl (keeps-out r))
edges-out (suc d) m ((a · b) ∷ s) k i us es r = edges-out d m (on a (on b s)) k i us es (on-out (a · b) s k (i
    ∷ us) es r)
edges-out (suc d) m ((a ∣ b) ∷ s) k i us es r = elim (or-out r) [
  | inl q ↦ out-left m (edges-of d (on a s)) (edges-of d (on b s)) k i us es
      (edges-out d m (on a s) k i us es (on-out a s k (i ∷ us) es q))
  | inr q ↦ out-right m (edges-of d (on a s)) (edges-of d (on b s)) k i us es
      (edges-out d m (on b s) k i us es (on-out b s k (i ∷ us) es q))
]
edges-out (suc d) m (Many a ∷ s) k i us es r = elim (many-out r) [
  | inl q ↦ out-left m (edges-of d s) (edges-of d (on a (Many a ∷ s))) k i us es (edges-out d m s k i us es q)
  | inr q ↦ out-right m (edges-of d s) (edges-of d (on a (Many a ∷ s))) k i us es (edges-out d m (on a (Many a
      ∷ s)) k i us es (on-out a (Many a ∷ s) k (i ∷ us) es q))
]
edges-out (suc d) m (The n ∷ s) k i us es r = edges-out d m (on (body n) s) k i us es (on-out (body n) s k (i
    ∷ us) es (rule-out r))

pub edges-in : (d : ℕ) (m : Mode) (s k : List Phrase) (i : Item) (us : List Item) (es : List Event)
    → In m (edges-of d s) k i us es → Run m (s ++ k) (i ∷ us) es
edges-in zero m s k i us es h = elim h [ ]
edges-in (suc d) m [] k i us es (inl h) = elim h [ ]
edges-in (suc d) m [] k i us es (inr h) = h.1
edges-in (suc d) m (Empty ∷ s) k i us es h = r-empty (edges-in d m s k i us es h)
edges-in (suc d) m (Token c ∷ s) k i us es (inl (inl (h, (fs, e, r)))) =
    subst (λ (x : List Event). Run m (Token c ∷ s ++ k) (i ∷ us) x) (sym e) (r-token h r)
edges-in (suc d) m (Token c ∷ s) k i us es (inl (inr h)) = elim h [ ]
edges-in (suc d) m (Token c ∷ s) k i us es (inr h) = absurd (let e = h.0 in cc)
edges-in (suc d) m (Keep o c ∷ s) k i us es (inl (inl (h, (fs, e, r)))) =
    subst (λ (x : List Event). Run m (Keep o c ∷ s ++ k) (i ∷ us) x) (sym e) (r-keeps h r)
edges-in (suc d) m (Keep o c ∷ s) k i us es (inl (inr h)) = elim h [ ]
edges-in (suc d) m (Keep o c ∷ s) k i us es (inr h) = absurd (let e = h.0 in cc)
edges-in (suc d) m ((a · b) ∷ s) k i us es h = on-back (a · b) s k (i
    ∷ us) es (edges-in d m (on a (on b s)) k i us es h)
edges-in (suc d) m ((a ∣ b) ∷ s) k i us es h = elim (in-split m (edges-of d (on a s)) (edges-of d (on b s)) k i
    us es h) [
      | inl q ↦ r-left (on-back a s k (i ∷ us) es (edges-in d m (on a s) k i us es q))
      | inr q ↦ r-right (on-back b s k (i ∷ us) es (edges-in d m (on b s) k i us es q))
    ]
edges-in (suc d) m (Many a ∷ s) k i us es h = elim (in-split m (edges-of d s) (edges-of d (on a (Many a
    ∷ s))) k i us es h) [
      | inl q ↦ r-none (edges-in d m s k i us es q)
      | inr q ↦ r-more (on-back a (Many a ∷ s) k (i ∷ us) es (edges-in d m (on a (Many a ∷ s)) k i us es q))
    ]
edges-in (suc d) m (The n ∷ s) k i us es h = r-rule (on-back (body n) s k (i
    ∷ us) es (edges-in d m (on (body n) s) k i us es h))
