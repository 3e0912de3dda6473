-- Kept tokens.
use Rattle.std.specs.Prelude.{ℕ, List}
use Rattle.wc_symbols.specs.declared.symbol.Symbol.{Symbol}

-- the number of the token among all of the text, its kind and value, and its bytes
pub record KeptToken : Type 0 where
  pub token : ℕ
  pub symbol : Symbol
  pub text : List ℕ

-- the kept token of this number, this kind and value, and these bytes
abbrev pub kept_token : ℕ → Symbol → List ℕ → KeptToken
kept_token token symbol text = record { token = token; symbol = symbol; text = text }
