-- Parentheses that come at once.
use Rattle.std.specs.Prelude.{◌≡◌, ℕ, List, ◌∷◌, ◌++◌}
use Rattle.wc_tokens.specs.declared.token.TokenKind.TheVariants.{Word}
use Rattle.wc_tokens.specs.declared.opened.OpenedWord.{OpenedWord}
use Rattle.wc_tokens.specs.Standard.Gaps.{Gaps}
use Rattle.wc_tokens.specs.Standard.Lexemes.{IsRun, BeginsNoIdchar}

-- behind gaps comes an opening parenthesis with this word right behind it
pub record IsOpened (text word : List ℕ) (opened : OpenedWord) : Type 0 where
  pub gaps : Gaps text opened.here.now
  pub opens : opened.here.now ≡ 40 ∷ opened.inside.now
  pub inside_is : opened.inside.now ≡ word ++ opened.rest.now
  pub run : IsRun Word word
  pub ended : BeginsNoIdchar opened.rest.now

-- behind gaps comes a closing parenthesis, and then the rest
pub record IsClosed (text rest : List ℕ) : Type 0 where
  pub here : List ℕ
  pub gaps : Gaps text here
  pub closes : here ≡ 41 ∷ rest
