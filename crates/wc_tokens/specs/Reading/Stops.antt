-- Where a token stands.
use Rattle.std.specs.Prelude.{◌≡◌, ℕ, List, ◌++◌}
use Rattle.wc_tokens.specs.Standard.Lexemes.{IsToken}
use Rattle.wc_tokens.specs.declared.token.TokenKind.{TokenKind}

-- the text ends with the rest
abbrev pub EndsWith : List ℕ → List ℕ → Type 0
EndsWith text rest = (front : List ℕ) × (text ≡ front ++ rest)

-- a token stands in a text before the rest, behind something else
pub record StandsIn (text : List ℕ) (kind : TokenKind) (here rest : List ℕ) : Type 0 where
  pub front : List ℕ
  pub part : List ℕ
  pub text_is : text ≡ front ++ here
  pub here_is : here ≡ part ++ rest
  pub token : IsToken kind part rest
