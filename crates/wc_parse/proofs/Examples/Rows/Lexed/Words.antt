-- Tokens but strings, and the numbers among them.
use Rattle.std.proofs.Common.{◌≡◌, ℕ, ◌<◌, ◌^◌, List, Some, refl, codes, lit<}
use Rattle.wc_tokens.specs.declared.token.TokenKind.TheVariants as token
use Rattle.wc_tokens.specs.Standard.Digits.{digit_of, Digits}
use Rattle.wc_tokens.specs.Standard.Numbers.{Natural, Literal}
use Rattle.wc_ops.specs.declared.op.Op.{Op}
use Rattle.wc_ops.specs.declared.op.Op.TheVariants as op
use Rattle.wc_ops.specs.declared.op.SimpleOp.TheVariants.{Drop, I32Add, I32Extend8S}
use Rattle.wc_ops.specs.declared.op.IndexOp.TheVariants.{Br, Call, LocalGet, GlobalSet}
use Rattle.wc_ops.specs.declared.op.MemOp.TheVariants.{I32Load}
use Rattle.wc_ops.specs.Standard.Opcodes.{row}
use Rattle.wc_syntax.specs.declared.kind.Kind.{Kind}
use Rattle.wc_syntax.specs.declared.kind.Kind.TheVariants as kind
use Rattle.wc_symbols.specs.declared.symbol.Symbol.{Symbol}
use Rattle.wc_symbols.specs.declared.symbol.Value.TheVariants.{Number, Offset, Exponent}
use Rattle.wc_symbols.specs.Standard.Symbols.{valued, bare}
use Rattle.wc_symbols.specs.Standard.Numbers.{NaturalIs, OffsetIs, AlignIs}
use Rattle.wc_symbols.specs.Standard.Names.{keyword, KeywordIs, NameIs}
use Rattle.wc_symbols.specs.Standard.Words.{Says, WordIs}
use Rattle.wc_parse_code.specs.Standard.Tokens.{KeptToken, kept_token}
use Rattle.wc_parse_code.specs.Standard.Productions.Tokens.{IsNatural, IsLiteral}
use Rattle.wc_parse.proofs.Examples.Rows.Lexed.Tokens.{Token}

-- ---- parentheses, identifiers and types

abbrev pub lp : Token
lp = record { form = token.Open; text = codes "("; symbol = bare kind.Open; is = refl }

abbrev pub rp : Token
rp = record { form = token.Close; text = codes ")"; symbol = bare kind.Close; is = refl }

abbrev pub id_word : List ℕ → Token
id_word text = record { form = token.Id; text = text; symbol = bare kind.Id; is = refl }

-- the word of this text, by what it says
abbrev pub word_of : {text : List ℕ} {symbol : Symbol} → WordIs text symbol → Token
word_of {text} {symbol} is = record { form = token.Word; text = text; symbol = symbol; is = is }

abbrev pub i32_word : Token
i32_word = word_of (WordIs.known (Says.name (NameIs.keyword_is KeywordIs.i32)))

abbrev pub i64_word : Token
i64_word = word_of (WordIs.known (Says.name (NameIs.keyword_is KeywordIs.i64)))

-- ---- keywords

-- the word of this kind
abbrev keyword_word : (k : Kind) {text : List ℕ} → keyword k ≡ Some text → Token
keyword_word k known = word_of (WordIs.known (Says.name (NameIs.keyword_is (KeywordIs.word k known))))

abbrev pub func_word : Token
func_word = keyword_word kind.FuncWord {text = codes "func"} refl

abbrev pub type_word : Token
type_word = keyword_word kind.TypeWord {text = codes "type"} refl

abbrev pub import_word : Token
import_word = keyword_word kind.ImportWord {text = codes "import"} refl

abbrev pub table_word : Token
table_word = keyword_word kind.TableWord {text = codes "table"} refl

abbrev pub memory_word : Token
memory_word = keyword_word kind.MemoryWord {text = codes "memory"} refl

abbrev pub global_word : Token
global_word = keyword_word kind.GlobalWord {text = codes "global"} refl

abbrev pub export_word : Token
export_word = keyword_word kind.ExportWord {text = codes "export"} refl

abbrev pub start_word : Token
start_word = keyword_word kind.StartWord {text = codes "start"} refl

abbrev pub elem_word : Token
elem_word = keyword_word kind.ElemWord {text = codes "elem"} refl

abbrev pub data_word : Token
data_word = keyword_word kind.DataWord {text = codes "data"} refl

abbrev pub offset_word : Token
offset_word = keyword_word kind.OffsetWord {text = codes "offset"} refl

abbrev pub local_word : Token
local_word = keyword_word kind.LocalWord {text = codes "local"} refl

abbrev pub param_word : Token
param_word = keyword_word kind.ParamWord {text = codes "param"} refl

abbrev pub result_word : Token
result_word = keyword_word kind.ResultWord {text = codes "result"} refl

abbrev pub funcref_word : Token
funcref_word = keyword_word kind.FuncrefWord {text = codes "funcref"} refl

abbrev pub module_word : Token
module_word = keyword_word kind.ModuleWord {text = codes "module"} refl

abbrev pub then_word : Token
then_word = keyword_word kind.ThenWord {text = codes "then"} refl

abbrev pub else_word : Token
else_word = keyword_word kind.ElseWord {text = codes "else"} refl

abbrev pub end_word : Token
end_word = keyword_word kind.EndWord {text = codes "end"} refl

-- ---- names of instructions

-- the name of this one
abbrev name_word : Op → Token
name_word o = word_of {text = (row o).name} (WordIs.known (Says.name (NameIs.instruction o refl)))

abbrev pub block_word : Token
block_word = name_word op.Block

abbrev pub if_word : Token
if_word = name_word op.If

abbrev pub br_word : Token
br_word = name_word (op.Index Br)

abbrev pub call_word : Token
call_word = name_word (op.Index Call)

abbrev pub local_get_word : Token
local_get_word = name_word (op.Index LocalGet)

abbrev pub global_set_word : Token
global_set_word = name_word (op.Index GlobalSet)

abbrev pub const_word : Token
const_word = name_word op.I32Const

abbrev pub wide_const_word : Token
wide_const_word = name_word op.I64Const

abbrev pub drop_word : Token
drop_word = name_word (op.Simple Drop)

abbrev pub add_word : Token
add_word = name_word (op.Simple I32Add)

abbrev pub extend_word : Token
extend_word = name_word (op.Simple I32Extend8S)

abbrev pub load_word : Token
load_word = name_word (op.Mem I32Load)

abbrev pub call_indirect_word : Token
call_indirect_word = name_word op.CallIndirect

-- the token of this number, as it is kept
abbrev pub kept : Token → ℕ → KeptToken
kept w number = kept_token number w.symbol w.text

-- ---- numbers

-- the natural number below 2^32 that these digits spell
abbrev pub number_word : {text : List ℕ} {n : ℕ} → Natural text n → n < 2 ^ 32 → Token
number_word spelled small = word_of (WordIs.known (Says.natural (NaturalIs.below_32 spelled small)))

-- the same, kept as the token of this number
abbrev natural : ℕ → List ℕ → ℕ → KeptToken
natural n text number = kept_token number (valued kind.Natural32 (Number n)) text

-- it is that number
pub is_natural : {n number : ℕ} {text : List ℕ} → IsNatural (natural n text number) n
is_natural = record { kind_is = refl; value_is = refl }

pub zero_spelled : Natural (codes "0") 0
unfolding digit_of
zero_spelled = Natural.decimal (Digits.one 48 (lit< tt))

abbrev pub zero_word : Token
zero_word = number_word zero_spelled (lit< tt)

pub zero_literal : {number : ℕ} → IsLiteral 32 (natural 0 (codes "0") number) 0
zero_literal = IsLiteral.spelled (Literal.unsigned zero_spelled) (lit< tt)

pub one_spelled : Natural (codes "1") 1
unfolding digit_of
one_spelled = Natural.decimal (Digits.one 49 (lit< tt))

abbrev pub one_word : Token
one_word = number_word one_spelled (lit< tt)

pub one_literal : {number : ℕ} → IsLiteral 32 (natural 1 (codes "1") number) 1
one_literal = IsLiteral.spelled (Literal.unsigned one_spelled) (lit< tt)

pub two_spelled : Natural (codes "2") 2
unfolding digit_of
two_spelled = Natural.decimal (Digits.one 50 (lit< tt))

abbrev pub two_word : Token
two_word = number_word two_spelled (lit< tt)

pub two_literal : {number : ℕ} → IsLiteral 32 (natural 2 (codes "2") number) 2
two_literal = IsLiteral.spelled (Literal.unsigned two_spelled) (lit< tt)

-- ---- offsets and alignments, each in one word

eight_spelled : Natural (codes "8") 8
unfolding digit_of
eight_spelled = Natural.decimal (Digits.one 56 (lit< tt))

four_spelled : Natural (codes "4") 4
unfolding digit_of
four_spelled = Natural.decimal (Digits.one 52 (lit< tt))

-- `align=8` and `align=1`
pub align_8_is : WordIs (codes "align=8") (valued kind.MemAlign (Exponent 3))
align_8_is = WordIs.known (Says.align refl (AlignIs.align_power eight_spelled refl (lit< tt)))

pub align_1_is : WordIs (codes "align=1") (valued kind.MemAlign (Exponent 0))
align_1_is = WordIs.known (Says.align refl (AlignIs.align_power one_spelled refl (lit< tt)))

-- `offset=4`
pub offset_4_is : WordIs (codes "offset=4") (valued kind.MemOffset (Offset 4))
offset_4_is = WordIs.known (Says.offset refl (OffsetIs.offset_number four_spelled (lit< tt)))

abbrev pub align_8_word : Token
align_8_word = word_of align_8_is

abbrev pub align_1_word : Token
align_1_word = word_of align_1_is

abbrev pub offset_4_word : Token
offset_4_word = word_of offset_4_is
