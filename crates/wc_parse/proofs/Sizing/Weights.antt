-- What is kept of tokens is of the tokens.
use Rattle.std.proofs.Common.{ℕ, ◌≤◌, List, [], ◌∷◌, ◌++◌}
use Rattle.std.proofs.Common.{arith}
use Rattle.std.specs.Prelude.{sum_by}
use Rattle.std.specs.List.{AllByRecursion}
use Rattle.std.proofs.lemmas.List.Sums.{sum_by-append}
use Rattle.wc_syntax.specs.Standard.Phrases.{Phrase}
use Rattle.wc_syntax.specs.Standard.Deriving.{Item, Event, kept, Derives, empty, token, keeps, then, left, right}
use Rattle.wc_syntax.specs.Standard.Deriving.{none, more, rule}

abbrev pub item_of : Event → Item
item_of (kept r i) = i

-- what a kept token weighs
abbrev pub weighs : (Item → ℕ) → Event → ℕ
weighs w e = w (item_of e)

-- kept tokens weigh no more than all tokens
pub kept-weigh : (w : Item → ℕ) {g : Phrase} {us : List Item} {es : List Event} → Derives g us es
    → sum_by (weighs w) es ≤ sum_by w us
kept-weigh w empty = omega arith
kept-weigh w (token e) = omega arith
kept-weigh w (keeps e) = omega arith
kept-weigh w (then {us = us} {vs = vs} {es = es} {fs = fs} a b) =
    omega (arith, kept-weigh w a, kept-weigh w b, sum_by-append w us vs, sum_by-append (weighs w) es fs)
kept-weigh w (left a) = kept-weigh w a
kept-weigh w (right a) = kept-weigh w a
kept-weigh w none = omega arith
kept-weigh w (more {us = us} {vs = vs} {es = es} {fs = fs} a b) =
    omega (arith, kept-weigh w a, kept-weigh w b, sum_by-append w us vs, sum_by-append (weighs w) es fs)
kept-weigh w (rule a) = kept-weigh w a

all-front : {X : Type 0} (P : X → Type 0) (xs ys : List X) → AllByRecursion P (xs ++ ys) → AllByRecursion P xs
all-front P [] ys h = tt
all-front P (x ∷ xs) ys h = (h.0, all-front P xs ys h.1)

all-back : {X : Type 0} (P : X → Type 0) (xs ys : List X) → AllByRecursion P (xs ++ ys) → AllByRecursion P ys
all-back P [] ys h = h
all-back P (x ∷ xs) ys h = all-back P xs ys h.1

all-both : {X : Type 0} (P : X → Type 0) (xs ys : List X) → AllByRecursion P xs → AllByRecursion P ys
    → AllByRecursion P (xs ++ ys)
all-both P [] ys g h = h
all-both P (x ∷ xs) ys g h = (g.0, all-both P xs ys g.1 h)

-- what holds of all tokens holds of the kept ones
pub kept-have : (P : Item → Type 0) {g : Phrase} {us : List Item} {es : List Event} → Derives g us es
    → AllByRecursion P us → AllByRecursion (λ e. P (item_of e)) es
kept-have P empty h = tt
kept-have P (token e) h = tt
kept-have P (keeps e) h = h
kept-have P (then {us = us} {vs = vs} {es = es} {fs = fs} a b) h =
    all-both (λ e. P (item_of e)) es fs (kept-have P a (all-front P us vs h)) (kept-have P b (all-back P us vs h))
kept-have P (left a) h = kept-have P a h
kept-have P (right a) h = kept-have P a h
kept-have P none h = tt
kept-have P (more {us = us} {vs = vs} {es = es} {fs = fs} a b) h =
    all-both (λ e. P (item_of e)) es fs (kept-have P a (all-front P us vs h)) (kept-have P b (all-back P us vs h))
kept-have P (rule a) h = kept-have P a h
