-- Instructions in which none is nested.
use Rattle.std.proofs.Common.{[], ◌∷◌, Some, None, refl, codes, lit<, lit≤}
use Rattle.wc_tokens.specs.Standard.Digits.{digit_of, Digits}
use Rattle.wc_tokens.specs.Standard.Numbers.{Natural, Literal}
use Rattle.wc_ops.specs.declared.op.Op.TheVariants as op
use Rattle.wc_ops.specs.declared.op.SimpleOp.TheVariants.{Nop}
use Rattle.wc_ops.specs.declared.op.IndexOp.TheVariants.{LocalGet, Call}
use Rattle.wc_ops.specs.declared.op.MemOp.TheVariants.{I32Load, I64Store}
use Rattle.wc_ops.specs.declared.val_type.ValType.TheVariants.{I32}
use Rattle.wc_syntax.specs.declared.kind.Kind.TheVariants as kind
use Rattle.wc_syntax.specs.declared.role.Role.TheVariants as role
use Rattle.wc_symbols.specs.declared.symbol.Value.TheVariants.{Number, Offset, Exponent}
use Rattle.wc_symbols.specs.Standard.Symbols.{valued}
use Rattle.wc_surface.specs.Standard.Identifiers.{identifier}
use Rattle.wc_surface.specs.Standard.Written.Indices.{number, named}
use Rattle.wc_surface.specs.Standard.Written.Instructions.{simple, indexed, br_table, call_indirect, access, i32_const}
use Rattle.wc_surface.specs.Standard.Written.Instructions.{i64_const}
use Rattle.wc_parse_code.specs.Standard.Tokens.{kept_token}
use Rattle.wc_parse_code.specs.Standard.Productions.Tokens.{◌⊳◌, IsIdentifier, IsIndex, IsLiteral}
use Rattle.wc_parse_code.specs.Standard.Productions.TypeUses.{param, IsParam, AreParams, AreResults, signature}
use Rattle.wc_parse_code.specs.Standard.Productions.TypeUses.{IsSignature, type_use, IsTypeUse}
use Rattle.wc_parse_code.specs.Standard.Productions.Plain.{AreLabels, IsMemOffset, IsMemAlign, IsMemArg, IsPlain}
use Rattle.wc_parse_code.proofs.Examples.Words.{name, id_at, natural, i32_at}

-- `nop`
nop : IsPlain role.Plain (role.Plain ⊳ name kind.Simple (op.Simple Nop) (codes "nop") 2 ∷ []) (simple Nop)
nop = IsPlain.simple_name refl

-- `local.get $x`
local_get : IsPlain role.Plain
    (role.Plain ⊳ name kind.Indexed (op.Index LocalGet) (codes "local.get") 2 ∷ role.Index ⊳ id_at (codes "$x") 3 ∷ [])
    (indexed LocalGet (named (identifier 3 (codes "$x"))))
local_get = IsPlain.index_name refl (IsIndex.id (IsIdentifier.bytes refl))

-- `call 7`
call : IsPlain role.Plain
    (role.Plain ⊳ name kind.Indexed (op.Index Call) (codes "call") 2 ∷ role.Index ⊳ natural 7 (codes "7") 3 ∷ [])
    (indexed Call (number 3 7))
call = IsPlain.index_name refl (IsIndex.u32 (record { kind_is = refl; value_is = refl }))

-- ---- `br_table 0 $a 2`: the last index is the default

-- `2`
last_label : AreLabels (role.Index ⊳ natural 2 (codes "2") 5 ∷ []) [] (number 5 2)
last_label = AreLabels.default (IsIndex.u32 (record { kind_is = refl; value_is = refl }))

-- `$a 2`
last_two : AreLabels (role.Index ⊳ id_at (codes "$a") 4 ∷ role.Index ⊳ natural 2 (codes "2") 5 ∷ [])
    (named (identifier 4 (codes "$a")) ∷ []) (number 5 2)
last_two = AreLabels.label (IsIndex.id (IsIdentifier.bytes refl)) last_label

-- `0 $a 2`
three_labels : AreLabels (role.Index ⊳ natural 0 (codes "0") 3 ∷ role.Index ⊳ id_at (codes "$a") 4
    ∷ role.Index ⊳ natural 2 (codes "2") 5 ∷ [])
    (number 3 0 ∷ named (identifier 4 (codes "$a")) ∷ []) (number 5 2)
three_labels = AreLabels.label (IsIndex.u32 (record { kind_is = refl; value_is = refl })) last_two

-- the whole
table : IsPlain role.Plain
    (role.Plain ⊳ name kind.BrTable op.BrTable (codes "br_table") 2 ∷ role.Index ⊳ natural 0 (codes "0") 3
    ∷ role.Index ⊳ id_at (codes "$a") 4 ∷ role.Index ⊳ natural 2 (codes "2") 5 ∷ [])
    (br_table (number 3 0 ∷ named (identifier 4 (codes "$a")) ∷ []) (number 5 2))
table = IsPlain.br_table_name refl three_labels

-- ---- `call_indirect (param $x i32)`: the parameter keeps its identifier, which is refused later

-- `(param $x i32)`
named_param : AreParams (role.ParamId ⊳ id_at (codes "$x") 5 ∷ role.ParamType ⊳ i32_at 6 ∷ [])
    (param (Some (identifier 5 (codes "$x"))) I32 ∷ [])
named_param = AreParams.more (IsParam.one (IsIdentifier.bytes refl) refl) AreParams.none

-- the whole
indirect : IsPlain role.Plain
    (role.Plain ⊳ name kind.CallIndirect op.CallIndirect (codes "call_indirect") 2
    ∷ role.ParamId ⊳ id_at (codes "$x") 5 ∷ role.ParamType ⊳ i32_at 6 ∷ [])
    (call_indirect 2 (type_use None (signature (param (Some (identifier 5 (codes "$x"))) I32 ∷ []) [])))
indirect = IsPlain.call_indirect_name refl (IsTypeUse.inline (IsSignature.both named_param AreResults.none))

-- ---- loads and stores

-- `i32.load offset=4 align=1`: 1 is two to the power of 0
load : IsPlain role.Plain
    (role.Plain ⊳ name kind.Access (op.Mem I32Load) (codes "i32.load") 2
    ∷ role.MemOffset ⊳ kept_token 3 (valued kind.MemOffset (Offset 4)) (codes "offset=4")
    ∷ role.MemAlign ⊳ kept_token 4 (valued kind.MemAlign (Exponent 0)) (codes "align=1") ∷ [])
    (access I32Load (record { offset = Some 4; align = Some 0 }))
load = IsPlain.access_name refl (IsMemArg.both (IsMemOffset.there refl) (IsMemAlign.there refl))

-- `i32.load align=8`
aligned : IsPlain role.Plain
    (role.Plain ⊳ name kind.Access (op.Mem I32Load) (codes "i32.load") 2
    ∷ role.MemAlign ⊳ kept_token 3 (valued kind.MemAlign (Exponent 3)) (codes "align=8") ∷ [])
    (access I32Load (record { offset = None; align = Some 3 }))
aligned = IsPlain.access_name refl (IsMemArg.both IsMemOffset.absent (IsMemAlign.there refl))

-- `i64.store`
store : IsPlain role.Plain (role.Plain ⊳ name kind.Access (op.Mem I64Store) (codes "i64.store") 2 ∷ [])
    (access I64Store (record { offset = None; align = None }))
store = IsPlain.access_name refl (IsMemArg.both IsMemOffset.absent IsMemAlign.absent)

-- ---- constants, by their bits

-- 64, in digits
sixty_four : Natural (codes "64") 64
unfolding digit_of
sixty_four = Natural.decimal (Digits.more 52 (Digits.one 54 (lit< tt)) (lit< tt))

-- `i32.const -64`: the two's complement in 32 bits
i32_literal : IsPlain role.Plain
    (role.Plain ⊳ name kind.Const32 op.I32Const (codes "i32.const") 2
    ∷ role.Literal ⊳ kept_token 3 (valued kind.Signed32 (Number 0xFFFFFFFFFFFFFFC0)) (codes "-64") ∷ [])
    (i32_const 0xFFFFFFC0)
i32_literal = IsPlain.i32_const_name refl (IsLiteral.spelled (Literal.minus sixty_four) (lit≤ tt))

-- `i64.const -64`: the two's complement in 64 bits
i64_literal : IsPlain role.Plain
    (role.Plain ⊳ name kind.Const64 op.I64Const (codes "i64.const") 2
    ∷ role.Literal ⊳ kept_token 3 (valued kind.Signed32 (Number 0xFFFFFFFFFFFFFFC0)) (codes "-64") ∷ [])
    (i64_const 0xFFFFFFFFFFFFFFC0)
i64_literal = IsPlain.i64_const_name refl (IsLiteral.spelled (Literal.minus sixty_four) (lit≤ tt))
