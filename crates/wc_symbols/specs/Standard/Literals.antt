-- The numbers of constants (Core 1.0, 6.3.1 and 6.5.6).
use Rattle.std.specs.Prelude.{◌≡◌, ℕ, ◌%◌, ◌^◌, ◌⊎◌}
use Rattle.wc_tokens.specs.Standard.Numbers.{Signed, bits_of}
use Rattle.wc_syntax.specs.declared.kind.Kind.TheVariants as kind
use Rattle.wc_symbols.specs.declared.symbol.Symbol.{Symbol}
use Rattle.wc_symbols.specs.declared.symbol.Value.TheVariants.{Number}

-- a literal of 32 bits, whose bits are the lower ones of the value
pub record IsLiteral32 (s : Symbol) (l : Signed) : Type 0 where
  pub kind_is : (s.kind ≡ kind.Natural32) ⊎ (s.kind ≡ kind.Signed32)
  pub bits : ℕ
  pub value_is : s.value ≡ Number bits
  pub lower : bits % 2 ^ 32 ≡ bits_of 32 l

-- a literal of 64 bits, whose bits are the value
pub record IsLiteral64 (s : Symbol) (l : Signed) : Type 0 where
  pub kind_is : ((s.kind ≡ kind.Natural32) ⊎ (s.kind ≡ kind.Natural64))
      ⊎ ((s.kind ≡ kind.Signed32) ⊎ (s.kind ≡ kind.Signed64))
  pub value_is : s.value ≡ Number (bits_of 64 l)
