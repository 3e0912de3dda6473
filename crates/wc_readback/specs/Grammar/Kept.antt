-- What the tokens of a printed text are: their kinds and values, and those of them that are kept.
use Rattle.std.specs.Prelude.{◌≡◌, get_or, ℕ, suc, List, [], ◌∷◌, map, Option, Some, None}
use Rattle.wc_ast.specs.declared.module.Module.{Module}
use Rattle.wc_tokens.specs.Standard.Lexemes.{Lexeme}
use Rattle.wc_syntax.specs.declared.kind.Kind.{Kind}
use Rattle.wc_syntax.specs.declared.role.Role.{Role}
use Rattle.wc_syntax.specs.Standard.Phrases.{word}
use Rattle.wc_syntax.specs.Standard.Deriving.{at, Event, kept}
use Rattle.wc_symbols.specs.declared.symbol.Symbol.{Symbol}
use Rattle.wc_symbols.specs.Standard.Tokens.{TokenIs}
use Rattle.wc_print.specs.Standard.Printed.{spelled}
use Rattle.wc_readback.specs.Grammar.Signs.{Sign}
use Rattle.wc_readback.specs.Grammar.FieldSigns.{signs}

-- a kept token: its role, its number, what it is to the grammar, and its bytes
pub record Said : Type 0 where
  pub role : Role
  pub at : ℕ
  pub symbol : Symbol
  pub text : List ℕ

-- what a kept sign says
abbrev pub said_as : Role → ℕ → Sign → Said
said_as r n s = record { role = r; at = n; symbol = s.symbol; text = spelled s.token }

-- the same before these, if it is kept
abbrev pub said_before : Option Role → ℕ → Sign → List Said → List Said
said_before None n s later = later
said_before (Some r) n s later = said_as r n s ∷ later

-- the kept ones of signs that are numbered from n on
abbrev pub said_from : ℕ → List Sign → List Said
said_from n [] = []
said_from n (s ∷ ss) = said_before s.role n s (said_from (suc n) ss)

-- a kept token as the grammar has it
abbrev pub event_of : Said → Event
event_of s = kept s.role (at s.at (word s.symbol.kind))

-- the kinds and values of signs
abbrev pub symbols_of : List Sign → List Symbol
symbols_of ss = map (λ s. s.symbol) ss

-- their kinds
abbrev pub kinds_of : List Sign → List Kind
kinds_of ss = map (λ s. s.symbol.kind) ss

-- each token of the row is what the one at its place in the other says
abbrev pub AreSymbols : List Lexeme → List Symbol → Type 0
AreSymbols [] [] = Unit {0}
AreSymbols [] (s ∷ ss) = ⊥
AreSymbols (t ∷ ts) [] = ⊥
AreSymbols (t ∷ ts) (s ∷ ss) = TokenIs t.kind t.text s × AreSymbols ts ss

-- at its number stands a token with its bytes, and what it is to the grammar
pub record StandsIn (ts : List Lexeme) (ss : List Symbol) (s : Said) : Type 0 where
  pub text_is : (otherwise : Lexeme) → (get_or ts s.at otherwise).text ≡ s.text
  pub symbol_is : (otherwise : Symbol) → get_or ss s.at otherwise ≡ s.symbol

-- ---- of a module's text

-- the kind and the value of each token
abbrev pub symbols : Module → List Symbol
symbols m = symbols_of (signs m)

-- the kind of each token
abbrev pub kinds : Module → List Kind
kinds m = kinds_of (signs m)

-- the kept tokens
abbrev pub said : Module → List Said
said m = said_from 0 (signs m)

-- the same as the grammar has them
abbrev pub events : Module → List Event
events m = map event_of (said m)
