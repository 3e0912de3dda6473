-- What each token is to the grammar (Core 1.0, 6.3).
use Rattle.std.specs.Prelude.{◌≡◌, List, [], ◌∷◌}
use Rattle.wc_tokens.specs.Standard.Lexemes.{Lexeme}
use Rattle.wc_syntax.specs.declared.kind.Kind.{Kind}
use Rattle.wc_symbols.specs.declared.symbol.Symbol.{Symbol}
use Rattle.wc_symbols.specs.Standard.Tokens.{TokenIs}

-- one stands for the other, pair by pair
pub data Each {A B : Type 0} (R : A → B → Type 0) : List A → List B → Type 0 where
  none : Each R [] []
  more : {a : A} {b : B} {xs : List A} {ys : List B} → R a b → Each R xs ys → Each R (a ∷ xs) (b ∷ ys)

-- the token has this kind to the grammar
abbrev pub HasKind : Lexeme → Kind → Type 0
HasKind t k = (s : Symbol) × TokenIs t.kind t.text s × (k ≡ s.kind)
