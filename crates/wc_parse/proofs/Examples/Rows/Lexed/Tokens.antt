-- Tokens one after the other, and what they stand for: a text, its tokens, their kinds, and what is kept of them.
use Rattle.std.proofs.Common.{ℕ, suc, List, [], ◌∷◌, ◌++◌, Option, Some, None, refl}
use Rattle.wc_tokens.specs.declared.token.TokenKind.{TokenKind}
use Rattle.wc_tokens.specs.Standard.Gaps.{Gap, Gaps}
use Rattle.wc_tokens.specs.Standard.Lexemes.{Lexeme, spanned}
use Rattle.wc_syntax.specs.declared.kind.Kind.{Kind}
use Rattle.wc_syntax.specs.declared.role.Role.{Role}
use Rattle.wc_syntax.specs.Standard.Phrases.{word}
use Rattle.wc_syntax.specs.Standard.Deriving.{at, Event, kept}
use Rattle.wc_symbols.specs.declared.symbol.Symbol.{Symbol}
use Rattle.wc_symbols.specs.Standard.Tokens.{TokenIs}
use Rattle.wc_parse_code.specs.Standard.Tokens.{kept_token}
use Rattle.wc_parse_code.specs.Standard.Productions.Tokens.{Said, ◌⊳◌}

-- a token, and what it is to the grammar
pub record Token : Type 0 where
  pub form : TokenKind
  pub text : List ℕ
  pub symbol : Symbol
  pub is : TokenIs form text symbol

-- what stands between two tokens
pub record Space : Type 0 where
  pub text : List ℕ
  pub gaps : (rest : List ℕ) → Gaps (text ++ rest) rest

-- a token of a text: what stands in front of it, and the role in which it is kept, if it is
pub record Placed : Type 0 where
  pub front : Space
  pub role : Option Role
  pub word : Token

-- nothing in front
abbrev pub nowhere : Space
nowhere = record { text = []; gaps = λ rest. Gaps.none }

-- one blank
abbrev pub blank : Space
blank = record { text = 32 ∷ []; gaps = λ rest. Gaps.more (Gap.blank 32 refl) Gaps.none }

abbrev pub placed : Space → Option Role → Token → Placed
placed s r w = record { front = s; role = r; word = w }

-- right behind the token before it, or one blank after it; and kept so
abbrev pub near : Token → Placed
near w = record { front = nowhere; role = None; word = w }

abbrev pub near_as : Role → Token → Placed
near_as r w = record { front = nowhere; role = Some r; word = w }

abbrev pub next : Token → Placed
next w = record { front = blank; role = None; word = w }

abbrev pub next_as : Role → Token → Placed
next_as r w = record { front = blank; role = Some r; word = w }

-- ---- what a list of tokens stands for

-- the text
abbrev pub text_of : List Placed → List ℕ
text_of [] = []
text_of (p ∷ ps) = p.front.text ++ (p.word.text ++ text_of ps)

-- its tokens, where it is the rest of a text of this size
abbrev pub lexemes : ℕ → List Placed → List Lexeme
lexemes size [] = []
lexemes size (p ∷ ps) = spanned size p.word.form p.word.text (text_of ps) ∷ lexemes size ps

-- their kinds
abbrev pub kinds_of : List Placed → List Kind
kinds_of [] = []
kinds_of (p ∷ ps) = p.word.symbol.kind ∷ kinds_of ps

-- the token of this number and kind, where it is kept, and then these
abbrev pub event : Option Role → ℕ → Kind → List Event → List Event
event None n k es = es
event (Some r) n k es = kept r (at n (word k)) ∷ es

-- what is kept of tokens with numbers from this one on
abbrev pub events_from : ℕ → List Placed → List Event
events_from n [] = []
events_from n (p ∷ ps) = event p.role n p.word.symbol.kind (events_from (suc n) ps)

-- the same with its text and its symbol
abbrev pub saying : Option Role → ℕ → Token → List Said → List Said
saying None n w us = us
saying (Some r) n w us = r ⊳ kept_token n w.symbol w.text ∷ us

abbrev pub said_from : ℕ → List Placed → List Said
said_from n [] = []
said_from n (p ∷ ps) = saying p.role n p.word (said_from (suc n) ps)
