-- What a derivation's kept tokens are, phrase by phrase.
use Rattle.std.proofs.Common.{◌≡◌, ◌≤◌, List, [], ◌∷◌, ◌++◌, ◌⊎◌, inl, inr, refl, sym, ap, subst, append-nil}
use Rattle.wc_ops.specs.declared.val_type.ValType.{ValType}
use Rattle.wc_body.specs.Standard.Nested.{nesting}
use Rattle.wc_syntax.specs.declared.kind.Kind.{Kind}
use Rattle.wc_syntax.specs.declared.role.Role.{Role}
use Rattle.wc_syntax.specs.declared.role.Role.TheVariants as role
use Rattle.wc_syntax.specs.Standard.Phrases.{Terminal, word, mark, Nonterminal, instr, foldedinstr, typeuse, param}
use Rattle.wc_syntax.specs.Standard.Phrases.{result, Phrase, Empty, Token, Keep, ◌·◌, ◌∣◌, Many, The}
use Rattle.wc_syntax.specs.Standard.Grammar.{body}
use Rattle.wc_syntax.specs.Standard.Deriving.{Item, terminal_of, Event, Derives}
use Rattle.wc_surface.specs.Standard.Written.TypeUses.{Param, TypeUse}
use Rattle.wc_surface.specs.Standard.Written.Instructions.{Instrs}
use Rattle.wc_parse_code.specs.Standard.Tokens.{KeptToken}
use Rattle.wc_parse_code.specs.Standard.Productions.Tokens.{Said, ◌⊳◌}
use Rattle.wc_parse_code.specs.Standard.Productions.TypeUses.{AreTypes, IsParam, IsTypeUse}
use Rattle.wc_parse_code.specs.Standard.Productions.Instructions.{Part, Says}
use Rattle.wc_parse_code.specs.Standard.Productions.Kept.{IsSpoken, AreKept}

-- any number of these, one behind the other
pub data Star (P : List Said → Type 0) : List Said → Type 0 where
  stop : Star P []
  go : {us vs : List Said} → P us → Star P vs → Star P (us ++ vs)

-- the first of two lists that make up a third
pub record Split (P Q : List Said → Type 0) (us : List Said) : Type 0 where
  pub front : List Said
  pub rest : List Said
  pub is : us ≡ front ++ rest
  pub first : P front
  pub second : Q rest

-- nothing is kept
pub data Nothing : List Said → Type 0 where
  nothing : Nothing []

-- a kept token of this role and kind
pub data OneToken (r : Role) (k : Kind) : List Said → Type 0 where
  one : {w : KeptToken} → w.symbol.kind ≡ k → IsSpoken w → OneToken r k (r ⊳ w ∷ [])

-- what a rule's kept tokens say: instructions, of which no more are nested in one another than may be
abbrev pub RuleSays : Nonterminal → List Said → Type 0
RuleSays (instr depth) us = (c : Instrs) × Says Part.instr us c × (nesting c ≤ depth)
RuleSays (foldedinstr depth) us = (c : Instrs) × Says Part.foldedinstr us c × (nesting c ≤ depth)
RuleSays typeuse us = (u : TypeUse) × IsTypeUse us u
RuleSays param us = (ps : List Param) × IsParam us ps
RuleSays result us = (ts : List ValType) × AreTypes role.ResultType us ts
RuleSays _ us = Unit {0}

-- what a phrase's kept tokens are, where those of its rules are these
abbrev pub AreBy : (Nonterminal → List Said → Type 0) → Phrase → List Said → Type 0
AreBy Rule Empty us = Nothing us
AreBy Rule (Token (word k)) us = Nothing us
AreBy Rule (Token mark) us = ⊥
AreBy Rule (Keep r k) us = OneToken r k us
AreBy Rule (a · b) us = Split (AreBy Rule a) (AreBy Rule b) us
AreBy Rule (a ∣ b) us = AreBy Rule a us ⊎ AreBy Rule b us
AreBy Rule (Many a) us = Star (AreBy Rule a) us
AreBy Rule (The n) us = Rule n us

-- the same by what the rules of instructions say
abbrev pub Are : Phrase → List Said → Type 0
Are g us = AreBy RuleSays g us

-- each item is a token
pub data AreTokens : List Item → Type 0 where
  none : AreTokens []
  more : {i : Item} {k : Kind} {is : List Item} → terminal_of i ≡ word k → AreTokens is → AreTokens (i ∷ is)

first-tokens : (us vs : List Item) → AreTokens (us ++ vs) → AreTokens us
first-tokens [] vs h = AreTokens.none
first-tokens (i ∷ us) vs (AreTokens.more e rest) = AreTokens.more e (first-tokens us vs rest)

last-tokens : (us vs : List Item) → AreTokens (us ++ vs) → AreTokens vs
last-tokens [] vs h = h
last-tokens (i ∷ us) vs (AreTokens.more e rest) = last-tokens us vs rest

no-mark : {t : Terminal} {k : Kind} → t ≡ mark → t ≡ word k → ⊥
no-mark e f = cc

token-are : (Rule : Nonterminal → List Said → Type 0) (t : Terminal) (i : Item) → terminal_of i ≡ t
    → AreTokens (i ∷ []) → AreBy Rule (Token t) []
token-are Rule (word k) i e h = Nothing.nothing
token-are Rule mark i e (AreTokens.more f rest) = no-mark e f

pub kept-split : (es fs : List Event) (us : List Said) → AreKept (es ++ fs) us → Split (AreKept es) (AreKept fs) us
kept-split [] fs us h = record { front = []; rest = us; is = refl; first = AreKept.none; second = h }
kept-split (e ∷ es) fs us (AreKept.more {r = r} {w = w} {us = vs} s rest) =
    let parts = kept-split es fs vs rest in
    record {
      front = r ⊳ w ∷ parts.front;
      rest = parts.rest;
      is = ap (λ (us : List Said). r ⊳ w ∷ us) parts.is;
      first = AreKept.more s parts.first;
      second = parts.second;
    }

pub the-kind : {k c : Kind} → word k ≡ word c → k ≡ c
the-kind e = cc

-- a derivation's kept tokens are what its phrase's are
pub derived-are : (Rule : Nonterminal → List Said → Type 0)
    (rules : (n : Nonterminal) (us : List Said) → AreBy Rule (body n) us → Rule n us) {g : Phrase} {is : List Item}
    {es : List Event} → Derives g is es → AreTokens is → (us : List Said) → AreKept es us → AreBy Rule g us
derived-are Rule rules Derives.empty t us AreKept.none = Nothing.nothing
derived-are Rule rules (Derives.token {t = k} {i = i} h) t us AreKept.none = token-are Rule k i h t
derived-are Rule rules (Derives.keeps h) t us (AreKept.more s AreKept.none) = OneToken.one (the-kind h) s
derived-are Rule rules (Derives.then {us = is} {vs = js} {es = es} {fs = fs} d e) t us k =
    let parts = kept-split es fs us k in
    record {
      front = parts.front;
      rest = parts.rest;
      is = parts.is;
      first = derived-are Rule rules d (first-tokens is js t) parts.front parts.first;
      second = derived-are Rule rules e (last-tokens is js t) parts.rest parts.second;
    }
derived-are Rule rules (Derives.left d) t us k = inl (derived-are Rule rules d t us k)
derived-are Rule rules (Derives.right d) t us k = inr (derived-are Rule rules d t us k)
derived-are Rule rules Derives.none t us AreKept.none = Star.stop
derived-are Rule rules (Derives.more {a = g} {us = is} {vs = js} {es = es} {fs = fs} d e) t us k =
    let parts = kept-split es fs us k in
    subst (Star (AreBy Rule g)) (sym parts.is)
    (Star.go (derived-are Rule rules d (first-tokens is js t) parts.front parts.first)
    (derived-are Rule rules e (last-tokens is js t) parts.rest parts.second))
derived-are Rule rules (Derives.rule {n = n} d) t us k = rules n us (derived-are Rule rules d t us k)

-- ---- sequences, one part after the other

-- a part, and the rest
pub parts : {A B : List Said → Type 0} (P : List Said → Type 0) {us : List Said} → Split A B us
    → ((front rest : List Said) → A front → B rest → P (front ++ rest)) → P us
parts P s each = subst P (sym s.is) (each s.front s.rest s.first s.second)

drop-first : (B : List Said → Type 0) (front rest : List Said) → Nothing front → B rest → B (front ++ rest)
drop-first B front rest Nothing.nothing b = b

drop-last : (A : List Said → Type 0) (front rest : List Said) → A front → Nothing rest → A (front ++ rest)
drop-last A front rest a Nothing.nothing = subst A (sym (append-nil front)) a

-- behind a token that isn't kept
pub behind : {B : List Said → Type 0} {us : List Said} → Split Nothing B us → B us
behind {B} s = parts B s (drop-first B)

-- in front of a token that isn't kept
pub before : {A : List Said → Type 0} {us : List Said} → Split A Nothing us → A us
before {A} s = parts A s (drop-last A)

-- a kept token alone
pub alone : {r : Role} {k : Kind} (P : List Said → Type 0) {us : List Said} → OneToken r k us
    → ((w : KeptToken) → w.symbol.kind ≡ k → IsSpoken w → P (r ⊳ w ∷ [])) → P us
alone P (OneToken.one e s) each = each _ e s

-- a kept token, and the rest
pub word_then : {r : Role} {k : Kind} {B : List Said → Type 0} (P : List Said → Type 0) {us : List Said}
    → Split (OneToken r k) B us
    → ((w : KeptToken) (rest : List Said) → w.symbol.kind ≡ k → IsSpoken w → B rest → P (r ⊳ w ∷ rest)) → P us
word_then P s each =
    parts P s (λ front rest f g. alone (λ us. P (us ++ rest)) f (λ w e h. each w rest e h g))
