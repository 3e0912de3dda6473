-- The states of the parser: what was read leads there, and what is left to read.
use Rattle.std.proofs.Common.{arith, ◌≡◌, ℕ, zero, suc, Bool, true, false, cond, List, [], ◌∷◌, ◌++◌, Option, map, refl}
use Rattle.std.proofs.Common.{sym, ap, subst, ◌∙◌, append_assoc, inl, inr, ◌⊎◌}
use Rattle.std.specs.Prelude.{nat_eq}
use Rattle.wc_syntax.specs.declared.kind.Kind.TheVariants as kind
use Rattle.wc_syntax.specs.declared.role.Role.{Role}
use Rattle.wc_syntax.specs.declared.place.Place.{Place}
use Rattle.wc_syntax.specs.declared.place.Frame.{Frame}
use Rattle.wc_syntax.specs.Standard.Phrases.{Terminal, word, mark, Phrase}
use Rattle.wc_syntax.specs.Standard.Deriving.{Item, terminal_of, Event}
use Rattle.wc_syntax.specs.Tables.Kinds.{code_of, same}
use Rattle.wc_syntax.proofs.Parser.Terminals.{all_terminals}
use Rattle.wc_syntax.specs.Tables.Table.{leads_to, is_end}
use Rattle.wc_syntax.proofs.Stacks.Run.{Mode, Run}
use Rattle.wc_syntax.proofs.Stacks.Edges.{Edge, edge, Edges, edges, edges-of, keep, AlongAny, edges-out, edges-in}
use Rattle.wc_syntax.proofs.Stacks.Edges.{out-left, out-right, in-split, Out as OutAlong, In as InAlong}
use Rattle.wc_syntax.proofs.Tabled.Places.{edges-all, Alt, alt, pick, the-edges, over, means, fuel}
use Rattle.wc_syntax.proofs.Tabled.Validity.{valid}
use Rattle.wc_syntax.proofs.Tabled.PlaceList.{at-place}
use Rattle.wc_syntax.proofs.Tabled.Agreement.{tag, said, sound, limit-reached, all-picks, all-said, all-edges}
use Rattle.wc_syntax.proofs.Tabled.Agreement.{ended-edges, all-sound, trues}
use Rattle.wc_syntax.proofs.Tabled.Tabling.{tabled}

-- ---- kinds

same-refl : (t : Terminal) → same t t ≡ true
same-refl (word kind.Close) = refl
same-refl (word _) = refl
same-refl mark = refl

abbrev decode : ℕ → List Terminal → Terminal
decode n [] = mark
decode zero (t ∷ ts) = t
decode (suc n) (t ∷ ts) = decode n ts

decoded : (t : Terminal) → decode (code_of t) all_terminals ≡ t
decoded (word kind.Open) = refl
decoded (word _) = refl
decoded mark = refl

nat-same : (m n : ℕ) → nat_eq m n ≡ true → m ≡ n
nat-same m n e = grind (arith, e)

pub same-is : (c t : Terminal) → same c t ≡ true → t ≡ c
same-is c t e = sym (decoded t) ∙ ap (λ (n : ℕ). decode n all_terminals) (sym (nat-same (code_of c) (code_of t) e))
    ∙ decoded c

pub is-same : (c t : Terminal) → t ≡ c → same c t ≡ true
is-same c t e = rw e (same-refl c)

abbrev nth : {A : Type 0} → A → ℕ → List A → A
nth a n [] = a
nth a zero (x ∷ xs) = x
nth a (suc n) (x ∷ xs) = nth a n xs

at-kind : {A : Type 0} (f g : Terminal → A) → map f all_terminals ≡ map g all_terminals → (t : Terminal) → f t ≡ g t
at-kind f g e (word kind.Open) = ap (λ l. nth (f (word kind.Open)) (code_of (word kind.Open)) l) e
at-kind f g e (word k) = ap (λ l. nth (f (word k)) (code_of (word k)) l) e
at-kind f g e mark = ap (λ l. nth (f mark) (code_of mark) l) e

-- ---- several stacks

-- one of these stacks, over the stack k, reads the tokens
abbrev pub Reads : Mode → List (List Phrase) → List Phrase → List Item → List Event → Type 0
Reads m [] k us es = ⊥
Reads m (s ∷ ss) k us es = Run m (s ++ k) us es ⊎ Reads m ss k us es

all-out : (d : ℕ) (m : Mode) (ss : List (List Phrase)) (k : List Phrase) (i : Item) (us : List Item) (es : List Event)
    → Reads m ss k (i ∷ us) es → OutAlong m (edges-all d ss) k i us es
all-out d m [] k i us es h = elim h [ ]
all-out d m (s ∷ ss) k i us es (inl r) = out-left m (edges-of d s) (edges-all d ss) k i us es
    (edges-out d m s k i us es r)
all-out d m (s ∷ ss) k i us es (inr h) = out-right m (edges-of d s) (edges-all d ss) k i us es
    (all-out d m ss k i us es h)

no-edge : (m : Mode) (k : List Phrase) (i : Item) (us : List Item) (es : List Event)
    → InAlong m (edges [] false) k i us es → ⊥
no-edge m k i us es (inl h) = h
no-edge m k i us es (inr h) = absurd (let e = h.0 in cc)

all-in : (d : ℕ) (m : Mode) (ss : List (List Phrase)) (k : List Phrase) (i : Item) (us : List Item) (es : List Event)
    → InAlong m (edges-all d ss) k i us es → Reads m ss k (i ∷ us) es
all-in d m [] k i us es h = no-edge m k i us es h
all-in d m (s ∷ ss) k i us es h = elim (in-split m (edges-of d s) (edges-all d ss) k i us es h) [
  | inl q ↦ inl (edges-in d m s k i us es q)
  | inr q ↦ inr (all-in d m ss k i us es q)
]

-- along one of these
abbrev pub Alts : Mode → List Alt → List Phrase → Item → List Item → List Event → Type 0
Alts m [] k i us es = ⊥
Alts m (alt o s ∷ l) k i us es = ((fs : List Event) × (es ≡ keep o i fs) × Run m (s ++ k) us fs) ⊎ Alts m l k i us es

fit-out : (m : Mode) (b : Bool) (o : Option Role) (s : List Phrase) (l : List Alt) (k : List Phrase) (i : Item)
    (us : List Item) (es : List Event) → b ≡ true → Alts m (alt o s ∷ l) k i us es
    → Alts m (cond b (alt o s ∷ l) l) k i us es
fit-out m true o s l k i us es e h = h
fit-out m false o s l k i us es e h = absurd cc

skip-out : (m : Mode) (b : Bool) (o : Option Role) (s : List Phrase) (l : List Alt) (k : List Phrase) (i : Item)
    (us : List Item) (es : List Event) → Alts m l k i us es → Alts m (cond b (alt o s ∷ l) l) k i us es
skip-out m true o s l k i us es h = inr h
skip-out m false o s l k i us es h = h

pick-out : (m : Mode) (xs : List Edge) (k : List Phrase) (i : Item) (us : List Item) (es : List Event)
    → AlongAny m xs k i us es → Alts m (pick (terminal_of i) xs) k i us es
pick-out m [] k i us es h = h
pick-out m (edge c o s ∷ xs) k i us es (inl h) =
    fit-out m (same c (terminal_of i)) o s (pick (terminal_of i) xs) k i us es (is-same c (terminal_of i) h.0) (inl h.1)
pick-out m (edge c o s ∷ xs) k i us es (inr h) =
    skip-out m (same c (terminal_of i)) o s (pick (terminal_of i) xs) k i us es (pick-out m xs k i us es h)

fit-in : (m : Mode) (b : Bool) (o : Option Role) (s : List Phrase) (l : List Alt) (k : List Phrase) (i : Item)
    (us : List Item) (es : List Event) → Alts m (cond b (alt o s ∷ l) l) k i us es
    → ((b ≡ true) × ((fs : List Event) × (es ≡ keep o i fs) × Run m (s ++ k) us fs)) ⊎ Alts m l k i us es
fit-in m true o s l k i us es (inl h) = inl (refl, h)
fit-in m true o s l k i us es (inr h) = inr h
fit-in m false o s l k i us es h = inr h

pick-in : (m : Mode) (xs : List Edge) (k : List Phrase) (i : Item) (us : List Item) (es : List Event)
    → Alts m (pick (terminal_of i) xs) k i us es → AlongAny m xs k i us es
pick-in m [] k i us es h = h
pick-in m (edge c o s ∷ xs) k i us es h = elim (fit-in m (same c (terminal_of i)) o s (pick (terminal_of i) xs) k i us
    es h) [
      | inl w ↦ inl (same-is c (terminal_of i) w.0, w.1)
      | inr w ↦ inr (pick-in m xs k i us es w)
    ]

pub tag-out : (m : Mode) (o : Option Role) (ss : List (List Phrase)) (k : List Phrase) (i : Item) (us : List Item)
    (es : List Event) → Alts m (tag o ss) k i us es → (fs : List Event) × (es ≡ keep o i fs) × Reads m ss k us fs
tag-out m o [] k i us es h = elim h [ ]
tag-out m o (s ∷ ss) k i us es (inl h) = (h.0, h.1, inl h.2)
tag-out m o (s ∷ ss) k i us es (inr h) = let w = tag-out m o ss k i us es h in (w.0, w.1, inr w.2)

pub tag-in : (m : Mode) (o : Option Role) (ss : List (List Phrase)) (k : List Phrase) (i : Item) (us : List Item)
    (fs : List Event) → Reads m ss k us fs → Alts m (tag o ss) k i us (keep o i fs)
tag-in m o [] k i us fs h = h
tag-in m o (s ∷ ss) k i us fs (inl r) = inl (fs, refl, r)
tag-in m o (s ∷ ss) k i us fs (inr h) = inr (tag-in m o ss k i us fs h)

pub over-out : (m : Mode) (t : List Phrase) (ss : List (List Phrase)) (k : List Phrase) (us : List Item)
    (es : List Event) → Reads m (over t ss) k us es → Reads m ss (t ++ k) us es
over-out m t [] k us es h = h
over-out m t (s ∷ ss) k us es (inl r) = inl (subst (λ (y : List Phrase). Run m y us es) (append_assoc s t k) r)
over-out m t (s ∷ ss) k us es (inr h) = inr (over-out m t ss k us es h)

pub over-in : (m : Mode) (t : List Phrase) (ss : List (List Phrase)) (k : List Phrase) (us : List Item)
    (es : List Event) → Reads m ss (t ++ k) us es → Reads m (over t ss) k us es
over-in m t [] k us es h = h
over-in m t (s ∷ ss) k us es (inl r) = inl (subst (λ (y : List Phrase). Run m y us es) (sym (append_assoc s t k)) r)
over-in m t (s ∷ ss) k us es (inr h) = inr (over-in m t ss k us es h)

-- ---- one token

nothing-reads : (m : Mode) (i : Item) (us : List Item) (es : List Event) → Run m [] (i ∷ us) es → ⊥
nothing-reads m i us es r = elim r [ ]

agreed : (d : ℕ) (p : Place) (b : Frame) (k : Terminal) → valid p b ≡ true
    → pick k (the-edges (edges-all fuel (means d p b))) ≡ said d b (leads_to p b (limit-reached d) k)
agreed d p b k v =
    at-kind (λ c. pick c (the-edges (edges-all fuel (means d p b)))) (λ c. said d b (leads_to p b (limit-reached d) c))
    (at-place (λ q. all-picks d q b) (λ q. all-said d q b) b (tabled d b).agrees p v) k

pub leads : (d : ℕ) (p : Place) (b : Frame) (k : Terminal) → valid p b ≡ true
    → sound d b (leads_to p b (limit-reached d) k) ≡ true
leads d p b k v =
    at-kind (λ c. sound d b (leads_to p b (limit-reached d) c)) (λ c. true)
    (at-place (λ q. all-sound d q b) (λ q. trues) b (tabled d b).all-lead p v) k

pub ends-so : (d : ℕ) (p : Place) (b : Frame) → valid p b ≡ true
    → edges-all fuel (means d p b) ≡ edges (the-edges (edges-all fuel (means d p b))) (is_end p b)
ends-so d p b v = at-place (λ q. all-edges d q b) (λ q. ended-edges d q b) b (tabled d b).ends p v

pub step-out : (d : ℕ) (p : Place) (b : Frame) → valid p b ≡ true
    → (m : Mode) (k : List Phrase) (i : Item) (us : List Item) (es : List Event) → (is_end p b ≡ true → k ≡ [])
    → Reads m (means d p b) k (i ∷ us) es → Alts m (said d b (leads_to p b (limit-reached d) (terminal_of i))) k i us es
step-out d p b v m k i us es bottom r =
    elim (subst (λ (x : Edges). OutAlong m x k i us es) (ends-so d p b v) (all-out fuel m (means d p b) k i us es r)) [
      | inl h ↦ subst (λ (l : List Alt). Alts m l k i us es) (agreed d p b (terminal_of i) v)
          (pick-out m (the-edges (edges-all fuel (means d p b))) k i us es h)
      | inr h ↦ absurd (nothing-reads m i us es (subst (λ (y : List Phrase). Run m y (i ∷ us) es) (bottom h.0) h.1))
    ]

pub step-in : (d : ℕ) (p : Place) (b : Frame) → valid p b ≡ true
    → (m : Mode) (k : List Phrase) (i : Item) (us : List Item) (es : List Event)
    → Alts m (said d b (leads_to p b (limit-reached d) (terminal_of i))) k i us es → Reads m (means d p b) k (i ∷ us) es
step-in d p b v m k i us es h =
    all-in fuel m (means d p b) k i us es (subst (λ (x : Edges). InAlong m x k i us es) (sym (ends-so d p b v))
    (inl (pick-in m (the-edges (edges-all fuel (means d p b))) k i us es (subst (λ (l : List Alt).
    Alts m l k i us es) (sym (agreed d p b (terminal_of i) v)) h))))
