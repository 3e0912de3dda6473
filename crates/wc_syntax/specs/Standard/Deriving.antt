-- What a phrase derives, and what begins it.
use Rattle.std.specs.Prelude.{◌≡◌, ℕ, suc, List, [], ◌∷◌, ◌++◌}
use Rattle.wc_syntax.specs.declared.kind.Kind.{Kind}
use Rattle.wc_syntax.specs.declared.role.Role.{Role}
use Rattle.wc_syntax.specs.Standard.Phrases.{Terminal, word, Nonterminal, Phrase, Empty, Token, Keep, ◌·◌, ◌∣◌, Many}
use Rattle.wc_syntax.specs.Standard.Phrases.{The}
use Rattle.wc_syntax.specs.Standard.Grammar.{body}

-- what stands at a place: a token's number, and what the grammar sees of it
pub data Item : Type 0 where
  at : ℕ → Terminal → Item

-- the kind of the token that stands there, or the mark
abbrev pub terminal_of : Item → Terminal
terminal_of (at n t) = t

-- tokens of these kinds, numbered from n on
abbrev pub numbered : ℕ → List Kind → List Item
numbered n [] = []
numbered n (k ∷ ks) = at n (word k) ∷ numbered (suc n) ks

-- a kept token: the value of a phrase is the list of these
pub data Event : Type 0 where
  kept : Role → Item → Event

-- `Derives g ts es`: the tokens ts, all of them, are a sentence of g, of which the tokens es are kept
pub data Derives : Phrase → List Item → List Event → Type 0 where
  empty : Derives Empty [] []
  token : {t : Terminal} {i : Item} → terminal_of i ≡ t → Derives (Token t) (i ∷ []) []
  keeps : {r : Role} {c : Kind} {i : Item} → terminal_of i ≡ word c → Derives (Keep r c) (i ∷ []) (kept r i ∷ [])
  then : {a b : Phrase} {us vs : List Item} {es fs : List Event} → Derives a us es → Derives b vs fs
      → Derives (a · b) (us ++ vs) (es ++ fs)
  left : {a b : Phrase} {us : List Item} {es : List Event} → Derives a us es → Derives (a ∣ b) us es
  right : {a b : Phrase} {us : List Item} {es : List Event} → Derives b us es → Derives (a ∣ b) us es
  none : {a : Phrase} → Derives (Many a) [] []
  more : {a : Phrase} {us vs : List Item} {es fs : List Event} → Derives a us es → Derives (Many a) vs fs
      → Derives (Many a) (us ++ vs) (es ++ fs)
  rule : {n : Nonterminal} {us : List Item} {es : List Event} → Derives (body n) us es → Derives (The n) us es

-- `Begins g ts`: some sentence of g begins with the tokens ts. The empty list begins every phrase, and a token the one
-- that it is; tokens begin a sequence where they begin its first part, or are a sentence of that and then begin the
-- rest; a choice where they begin one of the two; and a repetition as the sequence of its items.
pub data Begins : Phrase → List Item → Type 0 where
  nothing : {a : Phrase} → Begins a []
  begins-token : {t : Terminal} {i : Item} → terminal_of i ≡ t → Begins (Token t) (i ∷ [])
  begins-keeps : {r : Role} {c : Kind} {i : Item} → terminal_of i ≡ word c → Begins (Keep r c) (i ∷ [])
  in-first : {a b : Phrase} {us : List Item} → Begins a us → Begins (a · b) us
  in-second : {a b : Phrase} {us vs : List Item} {es : List Event} → Derives a us es → Begins b vs
      → Begins (a · b) (us ++ vs)
  in-left : {a b : Phrase} {us : List Item} → Begins a us → Begins (a ∣ b) us
  in-right : {a b : Phrase} {us : List Item} → Begins b us → Begins (a ∣ b) us
  in-item : {a : Phrase} {us : List Item} → Begins a us → Begins (Many a) us
  in-later : {a : Phrase} {us vs : List Item} {es : List Event} → Derives a us es → Begins (Many a) vs
      → Begins (Many a) (us ++ vs)
  in-rule : {n : Nonterminal} {us : List Item} → Begins (body n) us → Begins (The n) us
