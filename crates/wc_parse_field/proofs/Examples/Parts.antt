-- Parts of fields.
use Rattle.std.proofs.Common.{[], ◌∷◌, Some, None, true, false, refl, codes, lit<}
use Rattle.wc_tokens.specs.Standard.Digits.{digit_of, Digits}
use Rattle.wc_tokens.specs.Standard.Strings.{Element, Elements, IsString}
use Rattle.wc_tokens.specs.Standard.Numbers.{Natural, Literal}
use Rattle.wc_ops.specs.declared.op.Op.TheVariants as op
use Rattle.wc_ops.specs.declared.val_type.ValType.TheVariants.{I32, I64}
use Rattle.wc_ast.specs.declared.export.ExportKind.TheVariants as export
use Rattle.wc_body.specs.Standard.Nested.{Code}
use Rattle.wc_syntax.specs.declared.kind.Kind.TheVariants as kind
use Rattle.wc_syntax.specs.declared.role.Role.TheVariants as role
use Rattle.wc_symbols.specs.declared.symbol.Value.TheVariants.{Instruction}
use Rattle.wc_symbols.specs.Standard.Symbols.{valued}
use Rattle.wc_surface.specs.Standard.Identifiers.{identifier}
use Rattle.wc_surface.specs.Standard.Written.Indices.{number, named}
use Rattle.wc_surface.specs.Standard.Written.Instructions.{i32_const}
use Rattle.wc_parse_code.specs.Standard.Tokens.{kept_token}
use Rattle.wc_parse_code.specs.Standard.Productions.Tokens.{◌⊳◌, IsIdentifier, IsId, IsIndex, IsLiteral}
use Rattle.wc_parse_code.specs.Standard.Productions.Plain.{IsPlain}
use Rattle.wc_parse_code.specs.Standard.Productions.Instructions.{Says}
use Rattle.wc_parse_field.specs.Standard.Productions.Parts.{AreStrings, AreElements, AreExports, IsDeclared, IsImport}
use Rattle.wc_parse_field.specs.Standard.Productions.Parts.{IsInlineImport, AreUnnamed, IsLocal, AreLocals, AreLimits}
use Rattle.wc_parse_field.specs.Standard.Productions.Parts.{IsGlobalType, IsKind, IsOffset, IsTarget}
use Rattle.wc_parse_field.proofs.Examples.Names.{keyword, close, id_at, natural, letter, name_a, name_b, name_m, name_n}
use Rattle.wc_parse_field.proofs.Examples.Names.{letter_string, a_is_plain, i32_at, i64_at}

-- ---- strings

-- `"\00\ff\u{e9}"`: bytes, and the two of a character
three_escapes : IsString (codes "\"\\00\\ff\\u{e9}\"") (0 ∷ 0xFF ∷ 0xC3 ∷ 0xA9 ∷ [])
unfolding digit_of lib.Utf8.encode
three_escapes = record {
  body = codes "\\00\\ff\\u{e9}";
  text_is = refl;
  elements = Elements.more (Element.byte 48 48 (lit< tt) (lit< tt))
      (Elements.more (Element.byte 102 102 (lit< tt) (lit< tt))
      (Elements.more (Element.unicode (Digits.more 57 (Digits.one 101 (lit< tt)) (lit< tt)) refl)
      Elements.none));
}

-- `"\00\ff\u{e9}" "a"`: the bytes of both
two_strings : AreStrings
    (role.Bytes ⊳ keyword kind.Text (codes "\"\\00\\ff\\u{e9}\"") 4 ∷ role.Bytes ⊳ letter 97 5 ∷ [])
    (0 ∷ 0xFF ∷ 0xC3 ∷ 0xA9 ∷ 97 ∷ [])
two_strings = AreStrings.more three_escapes (AreStrings.more (letter_string 97 a_is_plain) AreStrings.none)

-- ---- names

-- `$f (export "a") (export "b")`
two_exports : IsDeclared
    (role.FieldId ⊳ id_at (codes "$f") 2 ∷ role.ExportName ⊳ letter 97 5 ∷ role.ExportName ⊳ letter 98 9 ∷ [])
    (record { id = Some (identifier 2 (codes "$f")); exports = codes "a" ∷ codes "b" ∷ [] })
two_exports = IsDeclared.both (IsId.there (IsIdentifier.bytes refl))
    (AreExports.more (name_a 5) (AreExports.more (name_b 9) AreExports.none))

-- `(import "m" "n")`, with its word at token 12
inline_import : IsInlineImport
    (role.ImportWord ⊳ keyword kind.ImportWord (codes "import") 12 ∷ role.ModuleName ⊳ letter 109 13
    ∷ role.ItemName ⊳ letter 110 14 ∷ [])
    (record { token = 12; «module» = codes "m"; item = codes "n" })
inline_import = IsInlineImport.word (IsImport.names (name_m 13) (name_n 14))

-- ---- locals

-- `(local $x i64)`
named_local : IsLocal (role.LocalId ⊳ id_at (codes "$x") 4 ∷ role.LocalType ⊳ i64_at 5 ∷ [])
    (record { id = Some (identifier 4 (codes "$x")); ty = I64; token = 5 } ∷ [])
named_local = IsLocal.one (IsIdentifier.bytes refl) refl

-- `(local i32 i64)`
two_locals : IsLocal (role.LocalType ⊳ i32_at 9 ∷ role.LocalType ⊳ i64_at 10 ∷ [])
    (record { id = None; ty = I32; token = 9 } ∷ record { id = None; ty = I64; token = 10 } ∷ [])
two_locals = IsLocal.several (AreUnnamed.more refl (AreUnnamed.more refl AreUnnamed.none))

-- `(local $x i64) (local i32 i64)`
two_groups : AreLocals
    (role.LocalId ⊳ id_at (codes "$x") 4 ∷ role.LocalType ⊳ i64_at 5 ∷ role.LocalType ⊳ i32_at 9
    ∷ role.LocalType ⊳ i64_at 10 ∷ [])
    (record { id = Some (identifier 4 (codes "$x")); ty = I64; token = 5 } ∷ record { id = None; ty = I32; token = 9 }
    ∷ record { id = None; ty = I64; token = 10 } ∷ [])
two_groups = AreLocals.more named_local (AreLocals.more two_locals AreLocals.none)

-- ---- types

-- `2`
least_alone : AreLimits (role.LimitsMin ⊳ natural 2 (codes "2") 2 ∷ []) (record { min = 2; max = None })
least_alone = AreLimits.least (record { kind_is = refl; value_is = refl })

-- `2 1`: that they are out of order is judged later
least_and_greatest : AreLimits
    (role.LimitsMin ⊳ natural 2 (codes "2") 2 ∷ role.LimitsMax ⊳ natural 1 (codes "1") 3 ∷ [])
    (record { min = 2; max = Some 1 })
least_and_greatest = AreLimits.both (record { kind_is = refl; value_is = refl })
    (record { kind_is = refl; value_is = refl })

-- `i32`
constant_type : IsGlobalType (role.GlobalType ⊳ i32_at 2 ∷ []) (record { ty = I32; mutable = false })
constant_type = IsGlobalType.constant refl

-- `(mut i64)`
variable_type : IsGlobalType
    (role.Mutable ⊳ keyword kind.MutWord (codes "mut") 3 ∷ role.GlobalType ⊳ i64_at 4 ∷ [])
    (record { ty = I64; mutable = true })
variable_type = IsGlobalType.variable refl

-- ---- segments

-- `func`, `table`, `memory` and `global`, behind the name of an export
function_kind : IsKind (keyword kind.FuncWord (codes "func") 4) export.Func
function_kind = IsKind.func refl

table_kind : IsKind (keyword kind.TableWord (codes "table") 4) export.Table
table_kind = IsKind.table refl

memory_kind : IsKind (keyword kind.MemoryWord (codes "memory") 4) export.Memory
memory_kind = IsKind.memory refl

global_kind : IsKind (keyword kind.GlobalWord (codes "global") 4) export.Global
global_kind = IsKind.global refl

-- `$f 3`
two_elements : AreElements (role.Element ⊳ id_at (codes "$f") 5 ∷ role.Element ⊳ natural 3 (codes "3") 6 ∷ [])
    (named (identifier 5 (codes "$f")) ∷ number 6 3 ∷ [])
two_elements = AreElements.more (IsIndex.id (IsIdentifier.bytes refl))
    (AreElements.more (IsIndex.u32 (record { kind_is = refl; value_is = refl })) AreElements.none)

-- no index
no_target : IsTarget [] None
no_target = IsTarget.absent

-- `0`
target : IsTarget (role.Target ⊳ natural 0 (codes "0") 2 ∷ []) (Some (number 2 0))
target = IsTarget.there (IsIndex.u32 (record { kind_is = refl; value_is = refl }))

-- 0, in digits
zero_spelled : Natural (codes "0") 0
unfolding digit_of
zero_spelled = Natural.decimal (Digits.one 48 (lit< tt))

-- `(offset i32.const 0)`
long_offset : IsOffset
    (role.Plain ⊳ kept_token 4 (valued kind.Const32 (Instruction op.I32Const)) (codes "i32.const")
    ∷ role.Literal ⊳ natural 0 (codes "0") 5 ∷ [])
    (Code.op (i32_const 0) Code.empty)
long_offset = IsOffset.word (Says.more (Says.plain
    (IsPlain.i32_const_name refl (IsLiteral.spelled (Literal.unsigned zero_spelled) (lit< tt)))) Says.none)

-- `(i32.const 0)`
short_offset : IsOffset
    (role.HeldPlain ⊳ kept_token 3 (valued kind.Const32 (Instruction op.I32Const)) (codes "i32.const")
    ∷ role.Literal ⊳ natural 0 (codes "0") 4 ∷ role.HeldEnd ⊳ close 5 ∷ [])
    (Code.op (i32_const 0) Code.empty)
short_offset = IsOffset.short (Says.folded_plain (close 5)
    (IsPlain.i32_const_name refl (IsLiteral.spelled (Literal.unsigned zero_spelled) (lit< tt))) Says.no_folded)
