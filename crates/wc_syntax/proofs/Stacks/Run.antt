-- A stack of phrases reads tokens: the same sentences and the same fronts as the grammar's.
use Rattle.std.proofs.Common.{◌≡◌, List, [], ◌∷◌, ◌++◌, refl, sym, ap, subst, ◌∙◌, append_assoc, append-nil, inl, inr}
use Rattle.std.proofs.Common.{◌⊎◌}
use Rattle.wc_syntax.specs.declared.kind.Kind.{Kind}
use Rattle.wc_syntax.specs.declared.role.Role.{Role}
use Rattle.wc_syntax.specs.Standard.Phrases.{Terminal, word, Nonterminal, Phrase, Empty, Token, Keep, ◌·◌, ◌∣◌, Many}
use Rattle.wc_syntax.specs.Standard.Phrases.{The}
use Rattle.wc_syntax.specs.Standard.Grammar.{body}
use Rattle.wc_syntax.specs.Standard.Deriving.{Item, terminal_of, Event, kept, Derives, empty, token, keeps, then, left}
use Rattle.wc_syntax.specs.Standard.Deriving.{right, none, more, rule, Begins, nothing, begins-token, begins-keeps}
use Rattle.wc_syntax.specs.Standard.Deriving.{in-first, in-second, in-left, in-right, in-item, in-later, in-rule}

-- whether the tokens are all, or are cut off somewhere
pub data Mode : Type 0 where
  Whole : Mode
  Cut : Mode

pub data Run : Mode → List Phrase → List Item → List Event → Type 0 where
  end : Run Whole [] [] []
  cut : {k : List Phrase} → Run Cut k [] []
  r-empty : {m : Mode} {k : List Phrase} {us : List Item} {es : List Event} → Run m k us es → Run m (Empty ∷ k) us es
  r-token : {m : Mode} {c : Terminal} {i : Item} {k : List Phrase} {us : List Item} {es : List Event}
      → terminal_of i ≡ c → Run m k us es → Run m (Token c ∷ k) (i ∷ us) es
  r-keeps : {m : Mode} {r : Role} {c : Kind} {i : Item} {k : List Phrase} {us : List Item} {es : List Event}
      → terminal_of i ≡ word c → Run m k us es → Run m (Keep r c ∷ k) (i ∷ us) (kept r i ∷ es)
  r-then : {m : Mode} {a b : Phrase} {k : List Phrase} {us : List Item} {es : List Event} → Run m (a ∷ b ∷ k) us es
      → Run m ((a · b) ∷ k) us es
  r-left : {m : Mode} {a b : Phrase} {k : List Phrase} {us : List Item} {es : List Event} → Run m (a ∷ k) us es
      → Run m ((a ∣ b) ∷ k) us es
  r-right : {m : Mode} {a b : Phrase} {k : List Phrase} {us : List Item} {es : List Event} → Run m (b ∷ k) us es
      → Run m ((a ∣ b) ∷ k) us es
  r-none : {m : Mode} {a : Phrase} {k : List Phrase} {us : List Item} {es : List Event} → Run m k us es
      → Run m (Many a ∷ k) us es
  r-more : {m : Mode} {a : Phrase} {k : List Phrase} {us : List Item} {es : List Event} → Run m (a ∷ Many a ∷ k) us es
      → Run m (Many a ∷ k) us es
  r-rule : {m : Mode} {n : Nonterminal} {k : List Phrase} {us : List Item} {es : List Event} → Run m (body n ∷ k) us es
      → Run m (The n ∷ k) us es

-- ---- from the grammar to the stack

regroup : {m : Mode} {k : List Phrase} (us vs ws : List Item) (es fs gs : List Event)
    → Run m k (us ++ (vs ++ ws)) (es ++ (fs ++ gs)) → Run m k ((us ++ vs) ++ ws) ((es ++ fs) ++ gs)
regroup us vs ws es fs gs r = rw (append_assoc us vs ws, append_assoc es fs gs) r

pub derived : {g : Phrase} {us : List Item} {es : List Event} → Derives g us es
    → (m : Mode) (k : List Phrase) (vs : List Item) (fs : List Event) → Run m k vs fs
    → Run m (g ∷ k) (us ++ vs) (es ++ fs)
derived empty m k vs fs r = r-empty r
derived (token h) m k vs fs r = r-token h r
derived (keeps h) m k vs fs r = r-keeps h r
derived (then {b = b} {us = u1} {vs = u2} {es = e1} {fs = e2} d e) m k vs fs r =
    r-then (regroup u1 u2 vs e1 e2 fs (derived d m (b ∷ k) (u2 ++ vs) (e2 ++ fs) (derived e m k vs fs r)))
derived (left d) m k vs fs r = r-left (derived d m k vs fs r)
derived (right d) m k vs fs r = r-right (derived d m k vs fs r)
derived none m k vs fs r = r-none r
derived (more {a = a} {us = u1} {vs = u2} {es = e1} {fs = e2} d e) m k vs fs r =
    r-more (regroup u1 u2 vs e1 e2 fs (derived d m (Many a ∷ k) (u2 ++ vs) (e2 ++ fs) (derived e m k vs fs r)))
derived (rule d) m k vs fs r = r-rule (derived d m k vs fs r)

pub begun : {g : Phrase} {us : List Item} → Begins g us → (k : List Phrase) → (es : List Event) × Run Cut (g ∷ k) us es
begun nothing k = ([], cut)
begun (begins-token h) k = ([], r-token h cut)
begun (begins-keeps {r = r} {i = i} h) k = (kept r i ∷ [], r-keeps h cut)
begun (in-first {b = b} d) k = let w = begun d (b ∷ k) in (w.0, r-then w.1)
begun (in-second {b = b} {vs = vs} {es = es} d e) k = let w = begun e k in
    (es ++ w.0, r-then (derived d Cut (b ∷ k) vs w.0 w.1))
begun (in-left d) k = let w = begun d k in (w.0, r-left w.1)
begun (in-right d) k = let w = begun d k in (w.0, r-right w.1)
begun (in-item {a = a} d) k = let w = begun d (Many a ∷ k) in (w.0, r-more w.1)
begun (in-later {a = a} {vs = vs} {es = es} d e) k = let w = begun e k in
    (es ++ w.0, r-more (derived d Cut (Many a ∷ k) vs w.0 w.1))
begun (in-rule d) k = let w = begun d k in (w.0, r-rule w.1)

-- ---- from the stack to the grammar

pub derives-begins : {g : Phrase} {us : List Item} {es : List Event} → Derives g us es → Begins g us
derives-begins empty = nothing
derives-begins (token h) = begins-token h
derives-begins (keeps h) = begins-keeps h
derives-begins (then d e) = in-second d (derives-begins e)
derives-begins (left d) = in-left (derives-begins d)
derives-begins (right d) = in-right (derives-begins d)
derives-begins none = nothing
derives-begins (more d e) = in-later d (derives-begins e)
derives-begins (rule d) = in-rule (derives-begins d)

-- the front that the first phrase takes, and what is left
pub record Taken (g : Phrase) (us vs : List Item) (es fs : List Event) (ws : List Item) (gs : List Event) : Type 0 where
  pub is : Derives g us es
  pub items : ws ≡ us ++ vs
  pub events : gs ≡ es ++ fs

abbrev pub Stacked : Mode → List Phrase → List Item → List Event → Type 0
Stacked m [] us es = (us ≡ []) × (es ≡ [])
Stacked m (g ∷ k) ws gs = ((us vs : List Item) × (es fs : List Event) × Taken g us vs es fs ws gs × Stacked m k vs fs)
    ⊎ ((m ≡ Cut) × Begins g ws)

then-is : {m : Mode} {a b : Phrase} (k : List Phrase) (ws : List Item) (gs : List Event) → Stacked m (a ∷ b ∷ k) ws gs
    → Stacked m ((a · b) ∷ k) ws gs
then-is k ws gs (inl (us, vs, es, fs, t, inl (us', vs', es', fs', t', r))) = inl (
  us ++ us',
  vs',
  es ++ es',
  fs',
  record {
    is = then t.is t'.is;
    items = t.items ∙ ap (λ (x : List Item). us ++ x) t'.items ∙ sym (append_assoc us us' vs');
    events = t.events ∙ ap (λ (x : List Event). es ++ x) t'.events ∙ sym (append_assoc es es' fs');
  },
  r,
)
then-is {a = a} {b = b} k ws gs (inl (us, vs, es, fs, t, inr (e, d))) =
    inr (e, subst (λ (x : List Item). Begins (a · b) x) (sym t.items) (in-second t.is d))
then-is k ws gs (inr (e, d)) = inr (e, in-first d)

more-is : {m : Mode} {a : Phrase} (k : List Phrase) (ws : List Item) (gs : List Event)
    → Stacked m (a ∷ Many a ∷ k) ws gs → Stacked m (Many a ∷ k) ws gs
more-is k ws gs (inl (us, vs, es, fs, t, inl (us', vs', es', fs', t', r))) = inl (
  us ++ us',
  vs',
  es ++ es',
  fs',
  record {
    is = more t.is t'.is;
    items = t.items ∙ ap (λ (x : List Item). us ++ x) t'.items ∙ sym (append_assoc us us' vs');
    events = t.events ∙ ap (λ (x : List Event). es ++ x) t'.events ∙ sym (append_assoc es es' fs');
  },
  r,
)
more-is {a = a} k ws gs (inl (us, vs, es, fs, t, inr (e, d))) =
    inr (e, subst (λ (x : List Item). Begins (Many a) x) (sym t.items) (in-later t.is d))
more-is k ws gs (inr (e, d)) = inr (e, in-item d)

-- a phrase that takes what another one takes
onto : (m : Mode) (a b : Phrase) (k : List Phrase) (ws : List Item) (gs : List Event)
    → ((us : List Item) (es : List Event) → Derives a us es → Derives b us es)
    → ((us : List Item) → Begins a us → Begins b us) → Stacked m (a ∷ k) ws gs → Stacked m (b ∷ k) ws gs
onto m a b k ws gs f g (inl (us, vs, es, fs, t, r)) =
    inl (us, vs, es, fs, record { is = f us es t.is; items = t.items; events = t.events }, r)
onto m a b k ws gs f g (inr (e, d)) = inr (e, g ws d)

cut-is : (k : List Phrase) → Stacked Cut k [] []
cut-is [] = (refl, refl)
cut-is (g ∷ k) = inr (refl, nothing)

pub stacked : {m : Mode} {k : List Phrase} {us : List Item} {es : List Event} → Run m k us es → Stacked m k us es
stacked end = (refl, refl)
stacked (cut {k = k}) = cut-is k
stacked (r-empty {us = us} {es = es} r) = inl (
  [],
  us,
  [],
  es,
  record { is = empty; items = refl; events = refl },
  stacked r,
)
stacked (r-token {i = i} {us = us} {es = es} h r) =
    inl (i ∷ [], us, [], es, record { is = token h; items = refl; events = refl }, stacked r)
stacked (r-keeps {r = r} {i = i} {us = us} {es = es} h q) =
    inl (i ∷ [], us, kept r i ∷ [], es, record { is = keeps h; items = refl; events = refl }, stacked q)
stacked (r-then {k = k} r) = then-is k _ _ (stacked r)
stacked (r-left {m = m} {a = a} {b = b} {k = k} {us = us} {es = es} r) =
    onto m a (a ∣ b) k us es (λ _ _ d. left d) (λ _ d. in-left d) (stacked r)
stacked (r-right {m = m} {a = a} {b = b} {k = k} {us = us} {es = es} r) =
    onto m b (a ∣ b) k us es (λ _ _ d. right d) (λ _ d. in-right d) (stacked r)
stacked (r-none {us = us} {es = es} r) = inl (
  [],
  us,
  [],
  es,
  record { is = none; items = refl; events = refl },
  stacked r,
)
stacked (r-more {k = k} r) = more-is k _ _ (stacked r)
stacked (r-rule {m = m} {n = n} {k = k} {us = us} {es = es} r) =
    onto m (body n) (The n) k us es (λ _ _ d. rule d) (λ _ d. in-rule d) (stacked r)

-- ---- one phrase alone

whole-end : {m : Mode} {g : Phrase} {ws : List Item} {gs : List Event} → m ≡ Whole → Stacked m (g ∷ []) ws gs
    → Derives g ws gs
whole-end {g = g} {gs = gs} e (inl (us, vs, es, fs, t, r)) =
    let items = t.items ∙ ap (λ (x : List Item). us ++ x) r.0 ∙ append-nil us in
    let events = t.events ∙ ap (λ (x : List Event). es ++ x) r.1 ∙ append-nil es in
    subst (λ (x : List Item). Derives g x gs) (sym items) (subst (λ (x : List Event). Derives g us x) (sym events) t.is)
whole-end e (inr (f, d)) = absurd cc

pub sentence : {g : Phrase} {ws : List Item} {gs : List Event} → Run Whole (g ∷ []) ws gs → Derives g ws gs
sentence r = whole-end refl (stacked r)

cut-end : {g : Phrase} {ws : List Item} {gs : List Event} → Stacked Cut (g ∷ []) ws gs → Begins g ws
cut-end {g = g} (inl (us, vs, es, fs, t, r)) =
    let items = t.items ∙ ap (λ (x : List Item). us ++ x) r.0 ∙ append-nil us in
    subst (λ (x : List Item). Begins g x) (sym items) (derives-begins t.is)
cut-end (inr (f, d)) = d

pub front : {g : Phrase} {ws : List Item} {gs : List Event} → Run Cut (g ∷ []) ws gs → Begins g ws
front r = cut-end (stacked r)
