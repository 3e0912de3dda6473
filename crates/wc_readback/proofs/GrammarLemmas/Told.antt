-- The tokens of a text are what the signs say.
use Rattle.std.proofs.Common.{◌≡◌, ℕ, List, [], ◌∷◌, map, sym, ap, subst}
use Rattle.std.specs.List.{AllByRecursion}
use Rattle.wc_print.specs.Standard.Printed.{Printed, opening, Item, token_of, lexemes_in}
use Rattle.wc_readback.specs.Grammar.Signs.{Sign}
use Rattle.wc_readback.specs.Grammar.Kept.{AreSymbols, symbols_of}
use Rattle.wc_readback.proofs.GrammarLemmas.Symbols.{Says}
use Rattle.wc_readback.proofs.GrammarLemmas.Meaning.{IsSign}
use Rattle.wc_readback.proofs.GrammarLemmas.Same.{tokens_of}

abbrev pub head : List Printed → Printed
head [] = opening
head (p ∷ ps) = p

abbrev pub tail : List Printed → List Printed
tail [] = []
tail (p ∷ ps) = ps

pub told : (size : ℕ) (items : List Item) (ss : List Sign) → map token_of items ≡ tokens_of ss
    → AllByRecursion IsSign ss → AreSymbols (lexemes_in size items) (symbols_of ss)
told size [] [] e h = tt
told size [] (s ∷ ss) e h = absurd cc
told size (i ∷ items) [] e h = absurd cc
told size (i ∷ items) (s ∷ ss) e h =
    (subst (λ (p : Printed). Says p s.symbol) (sym (ap head e)) h.0, told size items ss (ap tail e) h.1)
