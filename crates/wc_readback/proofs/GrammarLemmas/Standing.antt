-- Each kept token stands at its number.
use Rattle.std.proofs.Common.{◌≡◌, ℕ, zero, suc, List, [], ◌∷◌, map, drop, get_or, ap, ◌∙◌, Option, Some, None}
use Rattle.std.specs.List.{AllByRecursion}
use Rattle.wc_tokens.specs.Standard.Lexemes.{Lexeme}
use Rattle.wc_syntax.specs.declared.role.Role.{Role}
use Rattle.wc_symbols.specs.declared.symbol.Symbol.{Symbol}
use Rattle.wc_print.specs.Standard.Printed.{Item, token_of, spelled, lexemes_in}
use Rattle.wc_readback.specs.Grammar.Signs.{Sign}
use Rattle.wc_readback.specs.Grammar.Kept.{Said, said_before, said_from, symbols_of, StandsIn}
use Rattle.wc_readback.proofs.GrammarLemmas.Same.{tokens_of}
use Rattle.wc_readback.proofs.GrammarLemmas.Told.{head, tail}

at-place : {A : Type 0} (xs : List A) (n : ℕ) (x : A) (ys : List A) (d : A) → drop n xs ≡ x ∷ ys → get_or xs n d ≡ x
at-place [] zero x ys d e = absurd cc
at-place [] (suc n) x ys d e = absurd cc
at-place (z ∷ xs) zero x ys d e = ap (λ l. get_or l 0 d) e
at-place (z ∷ xs) (suc n) x ys d e = at-place xs n x ys d e

pub past : {A : Type 0} (xs : List A) (n : ℕ) (x : A) (ys : List A) → drop n xs ≡ x ∷ ys → drop (suc n) xs ≡ ys
past [] zero x ys e = absurd cc
past [] (suc n) x ys e = absurd cc
past (z ∷ xs) zero x ys e = ap (drop 1) e
past (z ∷ xs) (suc n) x ys e = past xs n x ys e

module _ (ts : List Lexeme) (all : List Symbol) where
  one : (r : Option Role) (n : ℕ) (s : Sign) (later : List Said)
      → ((d : Lexeme) → (get_or ts n d).text ≡ spelled s.token) → ((d : Symbol) → get_or all n d ≡ s.symbol)
      → AllByRecursion (StandsIn ts all) later → AllByRecursion (StandsIn ts all) (said_before r n s later)
  one None n s later f g h = h
  one (Some r) n s later f g h = (record { text_is = f; symbol_is = g }, h)

  pub standing : (size n : ℕ) (items : List Item) (ss : List Sign) → drop n ts ≡ lexemes_in size items
      → drop n all ≡ symbols_of ss → map token_of items ≡ tokens_of ss
      → AllByRecursion (StandsIn ts all) (said_from n ss)
  standing size n items [] e f h = tt
  standing size n [] (s ∷ ss) e f h = absurd cc
  standing size n (i ∷ items) (s ∷ ss) e f h =
      one s.role n s (said_from (suc n) ss)
      (λ d. ap (λ t. t.text) (at-place ts n _ _ d e) ∙ ap spelled (ap head h))
      (λ d. at-place all n _ _ d f)
      (standing size (suc n) items ss (past ts n _ _ e) (past all n _ _ f) (ap tail h))
