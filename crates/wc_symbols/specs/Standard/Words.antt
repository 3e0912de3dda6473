-- What each word says (Core 1.0, 6.3 to 6.6).
use Rattle.std.specs.Prelude.{◌≡◌, ℕ, List, codes, ◌++◌}
use Rattle.wc_syntax.specs.declared.kind.Kind.TheVariants as kind
use Rattle.wc_symbols.specs.declared.symbol.Symbol.{Symbol}
use Rattle.wc_symbols.specs.Standard.Symbols.{bare}
use Rattle.wc_symbols.specs.Standard.Numbers.{NaturalIs, SignedIs, OffsetIs, AlignIs}
use Rattle.wc_symbols.specs.Standard.Names.{NameIs}

-- a word that says something to the grammar
pub data Says : List ℕ → Symbol → Type 0 where
  natural : {text : List ℕ} {s : Symbol} → NaturalIs text s → Says text s
  signed : {text : List ℕ} {s : Symbol} → SignedIs text s → Says text s
  offset : {text digits : List ℕ} {s : Symbol} → text ≡ codes "offset=" ++ digits → OffsetIs digits s → Says text s
  align : {text digits : List ℕ} {s : Symbol} → text ≡ codes "align=" ++ digits → AlignIs digits s → Says text s
  name : {text : List ℕ} {s : Symbol} → NameIs text s → Says text s

-- what a word says, or that it is any other word
pub data WordIs : List ℕ → Symbol → Type 0 where
  known : {text : List ℕ} {s : Symbol} → Says text s → WordIs text s
  other : {text : List ℕ} → ((s : Symbol) → ¬ (Says text s)) → WordIs text (bare kind.OtherWord)
