-- Kept tokens in their roles, and the parts of a text that are one token (Core 1.0, 6.3 and 6.6.1).
use Rattle.std.specs.Prelude.{◌≡◌, ℕ, List, [], ◌∷◌, Option, Some, None}
use Rattle.wc_tokens.specs.Standard.Numbers.{Signed, Literal, FitsBits, bits_of}
use Rattle.wc_ops.specs.declared.op.Op.{Op}
use Rattle.wc_ops.specs.declared.val_type.ValType.{ValType as ValueType}
use Rattle.wc_syntax.specs.declared.kind.Kind.TheVariants as kind
use Rattle.wc_syntax.specs.declared.role.Role.{Role}
use Rattle.wc_symbols.specs.declared.symbol.Value.TheVariants.{Number, Instruction, ValType}
use Rattle.wc_surface.specs.Standard.Identifiers.{Identifier, identifier}
use Rattle.wc_surface.specs.Standard.Written.Indices.{Index, number, named}
use Rattle.wc_parse_code.specs.Standard.Tokens.{KeptToken}

infixr 80 ◌⊳◌
-- a kept token, behind what it is to the value
pub data Said : Type 0 where
  ◌⊳◌ : Role → KeptToken → Said

-- the token is the name of this instruction: of Core 1.0 without floats, or a sign extension of Core 2.0 (6.5)
abbrev pub NamesInstruction : KeptToken → Op → Type 0
NamesInstruction w o = w.symbol.value ≡ Instruction o

-- valtype: the token is this value type (6.4.1); float types are outside the profile
abbrev pub IsValueType : KeptToken → ValueType → Type 0
IsValueType w t = w.symbol.value ≡ ValType t

-- id: the token is an identifier, which is this one (6.3.5)
pub data IsIdentifier : KeptToken → Identifier → Type 0 where
  bytes : {w : KeptToken} → w.symbol.kind ≡ kind.Id → IsIdentifier w (identifier w.token w.text)

-- id?, where the identifier is this to the value (6.3.5)
pub data IsId (r : Role) : List Said → Option Identifier → Type 0 where
  absent : IsId r [] None
  there : {w : KeptToken} {i : Identifier} → IsIdentifier w i → IsId r (r ⊳ w ∷ []) (Some i)

-- u32: the token is a natural number below 2^32, which is this one (6.3.1)
pub record IsNatural (w : KeptToken) (n : ℕ) : Type 0 where
  pub kind_is : w.symbol.kind ≡ kind.Natural32
  pub value_is : w.symbol.value ≡ Number n

-- i32 or i64, by the number of bits: the token is a literal in the range of that type, which has these bits (6.3.1)
pub data IsLiteral (bits : ℕ) : KeptToken → ℕ → Type 0 where
  spelled : {w : KeptToken} {l : Signed} → Literal w.text l → FitsBits bits l → IsLiteral bits w (bits_of bits l)

-- index = u32 | id  (6.6.1)
pub data IsIndex : KeptToken → Index → Type 0 where
  u32 : {w : KeptToken} {n : ℕ} → IsNatural w n → IsIndex w (number w.token n)
  id : {w : KeptToken} {i : Identifier} → IsIdentifier w i → IsIndex w (named i)
