-- A printed token with what it says to a reader (Core 1.0, 6.3).
use Rattle.std.specs.Prelude.{ℕ, zero, suc, ◌^◌, nat_lt, if◌then◌else◌, ℤ, pos, negsuc, List, codes, Option, Some, None}
use Rattle.std.specs.Str.{is_utf8}
use Rattle.wc_ops.specs.declared.op.Op.{Op}
use Rattle.wc_ops.specs.declared.val_type.ValType.{ValType as ValueType}
use Rattle.wc_ops.specs.declared.val_type.ValType.TheVariants.{I32, I64}
use Rattle.wc_ops.specs.Standard.Opcodes.{row}
use Rattle.wc_tokens.specs.Standard.Numbers.{Minus, bits_of}
use Rattle.wc_syntax.specs.declared.kind.Kind.{Kind}
use Rattle.wc_syntax.specs.declared.kind.Kind.TheVariants as kind
use Rattle.wc_syntax.specs.declared.role.Role.{Role}
use Rattle.wc_syntax.specs.declared.role.Role.TheVariants as role
use Rattle.wc_symbols.specs.declared.symbol.Symbol.{Symbol}
use Rattle.wc_symbols.specs.declared.symbol.Value.TheVariants.{Number, Offset, Exponent, Instruction, ValType}
use Rattle.wc_symbols.specs.Standard.Symbols.{bare, valued}
use Rattle.wc_symbols.specs.Standard.Names.{keyword, op_kind}
use Rattle.wc_print.specs.Standard.Printed.{Printed, opening, closing, word, number, integer as signed_number, part}
use Rattle.wc_print.specs.Standard.Printed.{quoted}
use Rattle.wc_print.specs.Standard.Lines.{bytes_of}

-- a token; what it is to the grammar; and what it is to the fields of the text, if it is kept
pub record Sign : Type 0 where
  pub token : Printed
  pub symbol : Symbol
  pub role : Option Role

-- it isn't kept
abbrev pub silent : Printed → Symbol → Sign
silent p s = record { token = p; symbol = s; role = None }

-- it is kept in this role
abbrev pub spoken : Role → Printed → Symbol → Sign
spoken r p s = record { token = p; symbol = s; role = Some r }

-- ---- parentheses

-- `(`
abbrev pub opens : Sign
opens = silent opening (bare kind.Open)

-- `)`
abbrev pub closes : Sign
closes = silent closing (bare kind.Close)

-- the `)` of a field
abbrev pub ends : Sign
ends = spoken role.FieldEnd closing (bare kind.Close)

-- ---- words

-- nothing, where there is no word
abbrev pub or_none : Option (List ℕ) → List ℕ
or_none None = codes ""
or_none (Some w) = w

-- the word of a keyword
abbrev pub key_word : Kind → List ℕ
key_word k = or_none (keyword k)

-- a keyword
abbrev pub key : Kind → Sign
key k = silent (word (key_word k)) (bare k)

-- a keyword that is kept
abbrev pub kept_key : Role → Kind → Sign
kept_key r k = spoken r (word (key_word k)) (bare k)

-- the name of an instruction (6.5)
abbrev pub op_sign : Role → Op → Sign
op_sign r o = spoken r (word (row o).name) (valued (op_kind o) (Instruction o))

-- the name of a value type (6.4.1)
abbrev pub type_word : ValueType → List ℕ
type_word I32 = codes "i32"
type_word I64 = codes "i64"

-- a value type
abbrev pub type_sign : Role → ValueType → Sign
type_sign r t = spoken r (word (type_word t)) (valued kind.ValType (ValType t))

-- ---- numbers (6.3.1, 6.5.5)

-- a number below 2^32
abbrev pub natural : Role → ℕ → Sign
natural r n = spoken r (number n) (valued kind.Natural32 (Number n))

-- a number without a sign, by whether it is below 2^32
abbrev pub unsigned_symbol : ℕ → Symbol
unsigned_symbol n = valued (if nat_lt n (2 ^ 32) then kind.Natural32 else kind.Natural64) (Number n)

-- a number behind a minus sign, by whether it is at most 2^31; its value is the two's complement in 64 bits
abbrev pub minus_symbol : ℕ → Symbol
minus_symbol n = valued (if nat_lt (2 ^ 31) n then kind.Signed64 else kind.Signed32) (Number (bits_of 64 (Minus n)))

-- a number of at most 64 bits as it is read
abbrev pub integer_symbol : ℤ → Symbol
integer_symbol (pos n) = unsigned_symbol n
integer_symbol (negsuc n) = minus_symbol (suc n)

-- the number of a constant
abbrev pub literal : ℤ → Sign
literal z = spoken role.Literal (signed_number z) (integer_symbol z)

-- `offset=n`
abbrev pub offset_sign : ℕ → Sign
offset_sign n = spoken role.MemOffset (part (codes "offset=") n) (valued kind.MemOffset (Offset n))

-- the exponent of an alignment that is printed: one above 3, which no valid module has, is printed as 3
abbrev pub exponent_of : ℕ → ℕ
exponent_of zero = 0
exponent_of (suc zero) = 1
exponent_of (suc (suc zero)) = 2
exponent_of (suc (suc (suc n))) = 3

-- `align=` and the alignment in bytes
abbrev pub align_sign : ℕ → Sign
align_sign n =
    spoken role.MemAlign (part (codes "align=") (bytes_of n)) (valued kind.MemAlign (Exponent (exponent_of n)))

-- ---- strings (6.3.3)

-- a name (6.3.4)
abbrev pub name : Role → List ℕ → Sign
name r bytes = spoken r (quoted bytes) (bare kind.Name)

-- bytes, which may be a name
abbrev pub string : Role → List ℕ → Sign
string r bytes = spoken r (quoted bytes) (bare (if is_utf8 bytes then kind.Name else kind.Text))
