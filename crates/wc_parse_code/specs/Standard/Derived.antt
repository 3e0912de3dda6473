-- The kept tokens of a derivation, by their numbers, as the words that a draft takes. A law on drafts speaks of them,
-- and no production does.
use Rattle.std.specs.Prelude.{◌≡◌, ℕ, List, [], ◌∷◌}
use Rattle.wc_syntax.specs.Standard.Phrases.{Terminal, word}
use Rattle.wc_syntax.specs.Standard.Deriving.{at, Event, kept}
use Rattle.wc_symbols.specs.Standard.Ranges.{FitsKind}
use Rattle.wc_parse_code.specs.declared.word.Word.{Word}

-- the word is of this kind, with a value of the kind
pub record IsWord (t : Terminal) (w : Word) : Type 0 where
  pub kind : t ≡ word w.symbol.kind
  pub value : FitsKind w.symbol.kind w.symbol.value

-- the kept tokens are these words, by their numbers
abbrev pub AreWords : (ℕ → Word) → List Event → Type 0
AreWords words [] = Unit {0}
AreWords words (kept r (at n t) ∷ es) = IsWord t (words n) × AreWords words es
