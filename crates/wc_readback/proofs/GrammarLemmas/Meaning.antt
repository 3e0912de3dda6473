-- Signs of which each is what it says, and which a phrase derives.
use Rattle.std.proofs.Common.{◌≡◌, ℕ, suc, ◌+◌, List, [], ◌∷◌, ◌++◌, map, length, refl, sym, ap, subst, ◌∙◌, arith}
use Rattle.std.proofs.Common.{append_assoc, Option, Some, None, Bool, true, false}
use Rattle.std.specs.Prelude.{if◌then◌else◌}
use Rattle.std.specs.List.{AllByRecursion, flat_map}
use Rattle.std.proofs.lemmas.List.{append-nil, map-append}
use Rattle.wc_syntax.specs.declared.kind.Kind.{Kind}
use Rattle.wc_syntax.specs.declared.role.Role.{Role}
use Rattle.wc_syntax.specs.Standard.Phrases.{Phrase, Nonterminal, Empty, Keep, ◌·◌, ◌∣◌, Many, The, Maybe, word}
use Rattle.wc_syntax.specs.Standard.Phrases.{token as token_phrase}
use Rattle.wc_syntax.specs.Standard.Grammar.{body}
use Rattle.wc_syntax.specs.Standard.Deriving.{Item, at, numbered, Event, Derives, empty, token, keeps, left, right}
use Rattle.wc_syntax.specs.Standard.Deriving.{none, more, rule, then as in_turn}
use Rattle.wc_symbols.specs.declared.symbol.Value.{Value}
use Rattle.wc_symbols.specs.Standard.Symbols.{valued}
use Rattle.wc_print.specs.Standard.Printed.{Printed}
use Rattle.wc_readback.specs.Grammar.Signs.{Sign, silent, spoken}
use Rattle.wc_readback.specs.Grammar.Kept.{Said, said_as, said_before, said_from, event_of, kinds_of}
use Rattle.wc_readback.proofs.GrammarLemmas.Symbols.{Says}

-- the sign's token is what it says
abbrev pub IsSign : Sign → Type 0
IsSign s = Says s.token s.symbol

abbrev pub events_from : ℕ → List Sign → List Event
events_from n ss = map event_of (said_from n ss)

-- each sign is what it says, and the phrase derives them all, whatever the number of the first one
pub record Means (g : Phrase) (ss : List Sign) : Type 0 where
  pub says : AllByRecursion IsSign ss
  pub derives : (n : ℕ) → Derives g (numbered n (kinds_of ss)) (events_from n ss)

-- ---- lists

all-append : (a b : List Sign) → AllByRecursion IsSign a → AllByRecursion IsSign b → AllByRecursion IsSign (a ++ b)
all-append [] b h k = k
all-append (s ∷ a) b h k = (h.0, all-append a b h.1 k)

numbered-append : (n : ℕ) (a b : List Sign)
    → numbered n (kinds_of a) ++ numbered (length a + n) (kinds_of b) ≡ numbered n (kinds_of (a ++ b))
numbered-append n [] b = ap (λ k. numbered k (kinds_of b)) (omega arith)
numbered-append n (s ∷ a) b =
    ap (λ (x : List Item). at n (word s.symbol.kind) ∷ x)
    (ap (λ k. numbered (suc n) (kinds_of a) ++ numbered k (kinds_of b)) (omega arith) ∙ numbered-append (suc n) a b)

before-append : (r : Option Role) (n : ℕ) (s : Sign) (a b c : List Said) → a ++ b ≡ c
    → said_before r n s a ++ b ≡ said_before r n s c
before-append None n s a b c e = e
before-append (Some r) n s a b c e = ap (λ (x : List Said). said_as r n s ∷ x) e

pub said-append : (n : ℕ) (a b : List Sign) → said_from n a ++ said_from (length a + n) b ≡ said_from n (a ++ b)
said-append n [] b = ap (λ k. said_from k b) (omega arith)
said-append n (s ∷ a) b =
    before-append s.role n s _ _ _
    (ap (λ k. said_from (suc n) a ++ said_from k b) (omega arith) ∙ said-append (suc n) a b)

events-append : (n : ℕ) (a b : List Sign) → events_from n a ++ events_from (length a + n) b ≡ events_from n (a ++ b)
events-append n a b = sym (map-append event_of (said_from n a) (said_from (length a + n) b))
    ∙ ap (map event_of) (said-append n a b)

along : {g : Phrase} {us vs : List Item} {es fs : List Event} → us ≡ vs → es ≡ fs → Derives g us es → Derives g vs fs
along {g} {us} {vs} {es} {fs} e f d =
    let P : List Item → Type 0 = λ x. Derives g x fs in
    let Q : List Event → Type 0 = λ x. Derives g us x in
    subst P e (subst Q f d)

-- ---- phrases

pub dropped : (p : Printed) (k : Kind) (v : Value) → Says p (valued k v)
    → Means (token_phrase k) (silent p (valued k v) ∷ [])
dropped p k v h = record { says = (h, tt); derives = λ n. token refl }

pub kept-in : (r : Role) (p : Printed) (k : Kind) (v : Value) → Says p (valued k v)
    → Means (Keep r k) (spoken r p (valued k v) ∷ [])
kept-in r p k v h = record { says = (h, tt); derives = λ n. keeps refl }

pub both : {a b : Phrase} {us vs : List Sign} → Means a us → Means b vs → Means (a · b) (us ++ vs)
both {a} {b} {us} {vs} h k = record {
  says = all-append us vs h.says k.says;
  derives = λ n. along (numbered-append n us vs) (events-append n us vs)
      (in_turn (h.derives n) (k.derives (length us + n)));
}

pub first : {a b : Phrase} {s : Sign} {ss : List Sign} → Means a (s ∷ []) → Means b ss → Means (a · b) (s ∷ ss)
first h k = both h k

pub nothing : Means Empty []
nothing = record { says = tt; derives = λ n. empty }

pub in-left : {a b : Phrase} {ss : List Sign} → Means a ss → Means (a ∣ b) ss
in-left h = record { says = h.says; derives = λ n. left (h.derives n) }

pub in-right : {a b : Phrase} {ss : List Sign} → Means b ss → Means (a ∣ b) ss
in-right h = record { says = h.says; derives = λ n. right (h.derives n) }

pub by-rule : {n : Nonterminal} {ss : List Sign} → Means (body n) ss → Means (The n) ss
by-rule h = record { says = h.says; derives = λ n. rule (h.derives n) }

pub no-more : {a : Phrase} → Means (Many a) []
no-more = record { says = tt; derives = λ n. none }

pub one-more : {a : Phrase} {us vs : List Sign} → Means a us → Means (Many a) vs → Means (Many a) (us ++ vs)
one-more {a} {us} {vs} h k = record {
  says = all-append us vs h.says k.says;
  derives = λ n. along (numbered-append n us vs) (events-append n us vs)
      (more (h.derives n) (k.derives (length us + n)));
}

-- what may be left out is left out
pub skip : {a b : Phrase} {ss : List Sign} → Means b ss → Means (Maybe a · b) ss
skip h = both (in-left nothing) h

pub skip-many : {a b : Phrase} {ss : List Sign} → Means b ss → Means (Many a · b) ss
skip-many h = both no-more h

-- just one of any number
pub just : {a : Phrase} {ss : List Sign} → Means a ss → Means (Many a) ss
just {a} {ss} h = subst (Means (Many a)) (append-nil ss) (one-more h no-more)

-- one of each item of a list, and then others
pub each-then : {A : Type 0} {g : Phrase} (F : A → Type 0) (w : A → List Sign) → ((x : A) → F x → Means g (w x))
    → (xs : List A) → AllByRecursion F xs → (ss : List Sign) → Means (Many g) ss → Means (Many g) (flat_map w xs ++ ss)
each-then F w f [] h ss k = k
each-then {g = g} F w f (x ∷ xs) h ss k =
    subst (Means (Many g)) (sym (append_assoc (w x) (flat_map w xs) ss))
    (one-more (f x h.0) (each-then F w f xs h.1 ss k))

pub each : {A : Type 0} {g : Phrase} (F : A → Type 0) (w : A → List Sign) → ((x : A) → F x → Means g (w x))
    → (xs : List A) → AllByRecursion F xs → Means (Many g) (flat_map w xs)
each F w f [] h = no-more
each F w f (x ∷ xs) h = one-more (f x h.0) (each F w f xs h.1)

-- by a test
pub maybe-if : {g : Phrase} {s : Sign} (b : Bool) → Means g (s ∷ []) → Means (Maybe g) (if b then [] else s ∷ [])
maybe-if true h = in-left nothing
maybe-if false h = in-right h
