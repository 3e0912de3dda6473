-- Each printed token is what it is meant to be.
use Rattle.std.proofs.Common.{◌≡◌, ℕ, zero, suc, ◌-◌, ◌^◌, ◌<◌, ◌≤◌, nat_lt, Bool, true, false, refl, arith}
use Rattle.std.proofs.Common.{ℤ, pos, negsuc, List, ◌∷◌, Some, codes, IsUtf8, lit<}
use Rattle.std.specs.Prelude.{if◌then◌else◌}
use Rattle.std.specs.List.{AllByRecursion}
use Rattle.std.proofs.Common.{ltb→lt}
use Rattle.std.proofs.Math.Dec.{leb→le}
use Rattle.std.specs.Fmt.{decimal}
use Rattle.std.specs.Str.{is_utf8}
use Rattle.std.proofs.lemmas.Str.{IsUtf8-from_is_utf8, is_utf8-from_IsUtf8}
use Rattle.wc_ops.specs.declared.op.Op.{Op}
use Rattle.wc_ops.specs.declared.val_type.ValType.{ValType as ValueType}
use Rattle.wc_ops.specs.declared.val_type.ValType.TheVariants.{I32, I64}
use Rattle.wc_ops.specs.Standard.Opcodes.{row}
use Rattle.wc_tokens.specs.Standard.Numbers.{Natural, Minus, Literal, bits_of, decimal as is_decimal}
use Rattle.wc_syntax.specs.declared.kind.Kind.{Kind}
use Rattle.wc_syntax.specs.declared.kind.Kind.TheVariants as kind
use Rattle.wc_symbols.specs.declared.symbol.Symbol.{Symbol}
use Rattle.wc_symbols.specs.declared.symbol.Value.TheVariants.{Number, Offset, Exponent, Instruction, ValType}
use Rattle.wc_symbols.specs.Standard.Symbols.{bare, valued}
use Rattle.wc_symbols.specs.Standard.Names.{keyword, op_kind, word as is_keyword, i32 as is_i32, i64 as is_i64}
use Rattle.wc_symbols.specs.Standard.Names.{keyword_is, instruction}
use Rattle.wc_symbols.specs.Standard.Numbers.{below_32, below_64, of_32, of_64, offset_number, align_power}
use Rattle.wc_symbols.specs.Standard.Words.{WordIs, known, natural as says_natural, signed as says_signed}
use Rattle.wc_symbols.specs.Standard.Words.{offset as says_offset, align as says_align, name as says_name}
use Rattle.wc_symbols.specs.Standard.Tokens.{TokenIs, name as is_name, no_name}
use Rattle.wc_leb128.specs.Standard.Shortest.{HoldsSigned}
use Rattle.wc_print.specs.Standard.Printed.{Printed, word, number, integer, part, quoted, kind_of, spelled}
use Rattle.wc_print.specs.Standard.Printable.{IsByte}
use Rattle.wc_print.specs.Standard.Lines.{bytes_of}
use Rattle.wc_print.proofs.Reading.ReadNumbers.{Digits-decimal, Literal-signed}
use Rattle.wc_print.proofs.Reading.ReadStrings.{IsString-escaped}
use Rattle.wc_readback.specs.Grammar.Signs.{key_word, type_word, integer_symbol, exponent_of}

-- the token is what it says
abbrev pub Says : Printed → Symbol → Type 0
Says p s = TokenIs (kind_of p) (spelled p) s

pub says-key : (k : Kind) → keyword k ≡ Some (key_word k) → Says (word (key_word k)) (bare k)
says-key k e = known (says_name (keyword_is (is_keyword k e)))

pub says-op : (o : Op) → Says (word (row o).name) (valued (op_kind o) (Instruction o))
says-op o = known (says_name (instruction o refl))

pub says-type : (t : ValueType) → Says (word (type_word t)) (valued kind.ValType (ValType t))
says-type I32 = known (says_name (keyword_is is_i32))
says-type I64 = known (says_name (keyword_is is_i64))

natural-decimal : (n : ℕ) → n < 2 ^ 64 → Natural (decimal n) n
natural-decimal n lt = is_decimal (Digits-decimal n lt)

pub says-natural : (n : ℕ) → n < 2 ^ 32 → Says (number n) (valued kind.Natural32 (Number n))
says-natural n lt = known (says_natural (below_32 (natural-decimal n (omega (arith, lt))) lt))

pub says-offset : (n : ℕ) → n < 2 ^ 32 → Says (part (codes "offset=") n) (valued kind.MemOffset (Offset n))
says-offset n lt = known (says_offset refl (offset_number (natural-decimal n (omega (arith, lt))) lt))

power : (e : ℕ) → e < 4 → Says (part (codes "align=") (2 ^ e)) (valued kind.MemAlign (Exponent e))
power zero lt = known (says_align refl (align_power (natural-decimal 1 (lit< tt)) refl (lit< tt)))
power (suc zero) lt = known (says_align refl (align_power (natural-decimal 2 (lit< tt)) refl (lit< tt)))
power (suc (suc zero)) lt = known (says_align refl (align_power (natural-decimal 4 (lit< tt)) refl (lit< tt)))
power (suc (suc (suc zero))) lt = known (says_align refl (align_power (natural-decimal 8 (lit< tt)) refl (lit< tt)))
power (suc (suc (suc (suc e)))) lt = absurd (omega (arith, lt))

pub says-align : (n : ℕ) → Says (part (codes "align=") (bytes_of n)) (valued kind.MemAlign (Exponent (exponent_of n)))
says-align zero = power 0 (lit< tt)
says-align (suc zero) = power 1 (lit< tt)
says-align (suc (suc zero)) = power 2 (lit< tt)
says-align (suc (suc (suc n))) = power 3 (lit< tt)

unsigned-by : (n : ℕ) (b : Bool) → nat_lt n (2 ^ 32) ≡ b → n < 2 ^ 64
    → Says (number n) (valued (if b then kind.Natural32 else kind.Natural64) (Number n))
unsigned-by n true e lt = known (says_natural (below_32 (natural-decimal n lt) (grind arith)))
unsigned-by n false e lt = known (says_natural (below_64 (natural-decimal n lt) (grind arith) lt))

minus-by : (n : ℕ) (b : Bool) → nat_lt (2 ^ 31) n ≡ b → n ≤ 2 ^ 63 → Literal (45 ∷ decimal n) (Minus n)
    → WordIs (45 ∷ decimal n) (valued (if b then kind.Signed64 else kind.Signed32) (Number (bits_of 64 (Minus n))))
minus-by n true e le l = known (says_signed (of_64 l tt (λ f. grind arith) le))
minus-by n false e le l = known (says_signed (of_32 l tt (grind arith)))

pub says-integer : (z : ℤ) → HoldsSigned 64 z → Says (integer z) (integer_symbol z)
says-integer (pos n) h =
    let lt : n < 2 ^ 63 = ltb→lt n (2 ^ 63) h.1.lt in
    unsigned-by n (nat_lt n (2 ^ 32)) refl (omega (arith, lt))
says-integer (negsuc n) h =
    let le : n ≤ 2 ^ 63 - 1 = leb→le n _ h.0.le in
    minus-by (suc n) (nat_lt (2 ^ 31) (suc n)) refl (omega (arith, le)) (Literal-signed (negsuc n) (omega (arith, le)))

-- a number of 32 bits
pub says-integer-32 : (z : ℤ) → HoldsSigned 32 z → Says (integer z) (integer_symbol z)
says-integer-32 (pos n) h =
    let lt : n < 2 ^ 31 = ltb→lt n (2 ^ 31) h.1.lt in
    unsigned-by n (nat_lt n (2 ^ 32)) refl (omega (arith, lt))
says-integer-32 (negsuc n) h =
    let le : n ≤ 2 ^ 31 - 1 = leb→le n _ h.0.le in
    minus-by (suc n) (nat_lt (2 ^ 31) (suc n)) refl (omega (arith, le)) (Literal-signed (negsuc n) (omega (arith, le)))

pub says-name : (bytes : List ℕ) → IsUtf8 bytes → AllByRecursion IsByte bytes → Says (quoted bytes) (bare kind.Name)
says-name bytes u h = is_name (IsString-escaped bytes h) u

string-by : (bytes : List ℕ) (b : Bool) → is_utf8 bytes ≡ b → AllByRecursion IsByte bytes
    → Says (quoted bytes) (bare (if b then kind.Name else kind.Text))
string-by bytes true e h = is_name (IsString-escaped bytes h) (IsUtf8-from_is_utf8 bytes e)
string-by bytes false e h = no_name (IsString-escaped bytes h) (λ u. let f = is_utf8-from_IsUtf8 bytes u in cc)

pub says-string : (bytes : List ℕ) → AllByRecursion IsByte bytes
    → Says (quoted bytes) (bare (if is_utf8 bytes then kind.Name else kind.Text))
says-string bytes h = string-by bytes (is_utf8 bytes) refl h
