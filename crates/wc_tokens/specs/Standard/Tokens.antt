-- A text's tokens as a value.
use Rattle.std.specs.Prelude.{◌≡◌, ℕ, ◌+◌, ◌≤◌, List, [], ◌∷◌, length, map}
use Rattle.wc_tokens.specs.declared.token.Token.{Token}
use Rattle.wc_tokens.specs.Standard.Lexemes.{Lexeme, HasForm, longest}

-- a token without where its text lies in memory
abbrev pub lexeme_of : Token → Lexeme
lexeme_of t = record { kind = t.kind; text = t.text.now; start = t.start; stop = t.stop }

-- the same of each token
abbrev pub lexemes_of : List Token → List Lexeme
lexemes_of ts = map lexeme_of ts

-- the token spans as many bytes as its text has, from a place on, and has its kind's form
pub record IsSpanned (from : ℕ) (t : Lexeme) : Type 0 where
  pub follows : from ≤ t.start
  pub spans : t.start + length t.text ≡ t.stop
  pub short : t.stop ≤ longest
  pub form : HasForm t.kind t.text

-- spans in order, from a place on
abbrev pub InOrder : ℕ → List Lexeme → Type 0
InOrder from [] = Unit {0}
InOrder from (t ∷ ts) = IsSpanned from t × InOrder t.stop ts
