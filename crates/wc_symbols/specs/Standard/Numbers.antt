-- Words that say a number, and what stands behind `offset=` and `align=` (Core 1.0, 6.3.1 and 6.5.5).
use Rattle.std.specs.Prelude.{◌≡◌, ◌≢◌, ℕ, ◌^◌, ◌<◌, ◌≤◌, List}
use Rattle.wc_tokens.specs.Standard.Numbers.{Natural, Signed, Unsigned, Plus, Minus, Literal, FitsBits, bits_of}
use Rattle.wc_syntax.specs.declared.kind.Kind.TheVariants as kind
use Rattle.wc_symbols.specs.declared.symbol.Symbol.{Symbol}
use Rattle.wc_symbols.specs.declared.symbol.Value.TheVariants.{Number, Offset, Exponent}
use Rattle.wc_symbols.specs.Standard.Symbols.{bare, valued}

-- a natural number, by its range
pub data NaturalIs : List ℕ → Symbol → Type 0 where
  below_32 : {text : List ℕ} {n : ℕ} → Natural text n → n < 2 ^ 32 → NaturalIs text (valued kind.Natural32 (Number n))
  below_64 : {text : List ℕ} {n : ℕ} → Natural text n → 2 ^ 32 ≤ n → n < 2 ^ 64
      → NaturalIs text (valued kind.Natural64 (Number n))
  above : {text : List ℕ} {n : ℕ} → Natural text n → 2 ^ 64 ≤ n → NaturalIs text (bare kind.Natural)

-- the number stands behind a sign
abbrev pub HasSign : Signed → Type 0
HasSign (Unsigned n) = ⊥
HasSign (Plus n) = Unit {0}
HasSign (Minus n) = Unit {0}

-- a number behind a sign, by its range; its value is the two's complement in 64 bits
pub data SignedIs : List ℕ → Symbol → Type 0 where
  of_32 : {text : List ℕ} {l : Signed} → Literal text l → HasSign l → FitsBits 32 l
      → SignedIs text (valued kind.Signed32 (Number (bits_of 64 l)))
  of_64 : {text : List ℕ} {l : Signed} → Literal text l → HasSign l → ¬ (FitsBits 32 l) → FitsBits 64 l
      → SignedIs text (valued kind.Signed64 (Number (bits_of 64 l)))
  beyond : {text : List ℕ} {l : Signed} → Literal text l → HasSign l → ¬ (FitsBits 64 l)
      → SignedIs text (bare kind.Signed)

-- what stands behind `offset=`
pub data OffsetIs : List ℕ → Symbol → Type 0 where
  offset_number : {text : List ℕ} {n : ℕ} → Natural text n → n < 2 ^ 32
      → OffsetIs text (valued kind.MemOffset (Offset n))
  offset_range : {text : List ℕ} {n : ℕ} → Natural text n → 2 ^ 32 ≤ n → OffsetIs text (bare kind.MemOffsetRange)
  offset_form : {text : List ℕ} → ((n : ℕ) → ¬ (Natural text n)) → OffsetIs text (bare kind.MemOffsetForm)

-- what stands behind `align=`: its value is the exponent of a power of two
pub data AlignIs : List ℕ → Symbol → Type 0 where
  align_power : {text : List ℕ} {n e : ℕ} → Natural text n → n ≡ 2 ^ e → e < 32
      → AlignIs text (valued kind.MemAlign (Exponent e))
  align_no_power : {text : List ℕ} {n : ℕ} → Natural text n → n < 2 ^ 32 → ((e : ℕ) → n ≢ 2 ^ e)
      → AlignIs text (bare kind.MemAlignPower)
  align_range : {text : List ℕ} {n : ℕ} → Natural text n → 2 ^ 32 ≤ n → AlignIs text (bare kind.MemAlignRange)
  align_form : {text : List ℕ} → ((n : ℕ) → ¬ (Natural text n)) → AlignIs text (bare kind.MemAlignForm)
