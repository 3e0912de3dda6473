-- Instructions with those nested in them, and folded ones.
use Rattle.std.proofs.Common.{ℕ, ◌<◌, ◌^◌, List, [], ◌∷◌, ◌++◌, Some, None, refl, codes, lit<}
use Rattle.wc_tokens.specs.Standard.Digits.{digit_of, Digits}
use Rattle.wc_tokens.specs.Standard.Numbers.{Natural, Literal}
use Rattle.wc_ops.specs.declared.op.Op.TheVariants as op
use Rattle.wc_ops.specs.declared.op.SimpleOp.TheVariants.{Nop}
use Rattle.wc_ops.specs.declared.op.IndexOp.TheVariants.{Br, LocalGet}
use Rattle.wc_ops.specs.declared.val_type.ValType.TheVariants.{I32}
use Rattle.wc_body.specs.Standard.Nested.{block, loop, Code}
use Rattle.wc_syntax.specs.declared.kind.Kind.TheVariants as kind
use Rattle.wc_syntax.specs.declared.role.Role.TheVariants as role
use Rattle.wc_surface.specs.Standard.Identifiers.{identifier}
use Rattle.wc_surface.specs.Standard.Written.Indices.{named}
use Rattle.wc_surface.specs.Standard.Written.Instructions.{simple, indexed, call_indirect, i32_const, short}
use Rattle.wc_parse_code.specs.Standard.Tokens.{KeptToken}
use Rattle.wc_parse_code.specs.Standard.Productions.Tokens.{Said, ◌⊳◌, IsIdentifier, IsId, IsIndex, IsLiteral}
use Rattle.wc_parse_code.specs.Standard.Productions.TypeUses.{AreTypes, param, IsParam, AreParams, AreResults}
use Rattle.wc_parse_code.specs.Standard.Productions.TypeUses.{signature, IsSignature, type_use, IsTypeUse, IsBlockType}
use Rattle.wc_parse_code.specs.Standard.Productions.Plain.{IsPlain}
use Rattle.wc_parse_code.specs.Standard.Productions.Instructions.{IsRegion, IsHead, head, Says, instrs, instr}
use Rattle.wc_parse_code.specs.Standard.Productions.Instructions.{foldedinstr}
use Rattle.wc_parse_code.proofs.Examples.Words.{keyword, close, name, id_at, natural, i32_at}

-- `block`, as the token of this number
abbrev block_at : ℕ → KeptToken
block_at token = name kind.Region op.Block (codes "block") token

-- `loop`
abbrev loop_at : ℕ → KeptToken
loop_at token = name kind.Region op.Loop (codes "loop") token

-- `if`
abbrev if_at : ℕ → KeptToken
if_at token = name kind.If op.If (codes "if") token

-- `then`
abbrev then_at : ℕ → KeptToken
then_at token = keyword kind.ThenWord (codes "then") token

-- `else`
abbrev else_at : ℕ → KeptToken
else_at token = keyword kind.ElseWord (codes "else") token

-- `end`
abbrev end_at : ℕ → KeptToken
end_at token = keyword kind.EndWord (codes "end") token

-- `nop`
abbrev nop_at : ℕ → KeptToken
nop_at token = name kind.Simple (op.Simple Nop) (codes "nop") token

-- `br`
abbrev br_at : ℕ → KeptToken
br_at token = name kind.Indexed (op.Index Br) (codes "br") token

-- `local.get`
abbrev local_get_at : ℕ → KeptToken
local_get_at token = name kind.Indexed (op.Index LocalGet) (codes "local.get") token

-- `i32.const`
abbrev const_at : ℕ → KeptToken
const_at token = name kind.Const32 op.I32Const (codes "i32.const") token

-- `call_indirect`
abbrev call_at : ℕ → KeptToken
call_at token = name kind.CallIndirect op.CallIndirect (codes "call_indirect") token

-- no block type is written
no_block_type : IsBlockType [] (short None)
no_block_type = IsBlockType.no_type (IsTypeUse.inline (IsSignature.both AreParams.none AreResults.none))

-- no label either
no_head : IsHead [] None (short None)
no_head = IsHead.both IsId.absent no_block_type

-- ---- `block $a block $a br $a end $a end $b`: what stands behind `end` is kept as it is, and judged later

-- `br $a`
inner_jump : Says instrs (role.Plain ⊳ br_at 6 ∷ role.Index ⊳ id_at (codes "$a") 7 ∷ [])
    (Code.op (indexed Br (named (identifier 7 (codes "$a")))) Code.empty)
inner_jump = Says.more (Says.plain (IsPlain.index_name refl (IsIndex.id (IsIdentifier.bytes refl)))) Says.none

-- `block $a br $a end $a`
inner_block : Says instr
    (role.Begin ⊳ block_at 4 ∷ role.Label ⊳ id_at (codes "$a") 5 ∷ role.Plain ⊳ br_at 6
    ∷ role.Index ⊳ id_at (codes "$a") 7 ∷ role.End ⊳ end_at 8 ∷ role.EndLabel ⊳ id_at (codes "$a") 9 ∷ [])
    (Code.region block
    (head (block_at 4) (Some (identifier 5 (codes "$a"))) (short None) None (Some (identifier 9 (codes "$a"))))
    (Code.op (indexed Br (named (identifier 7 (codes "$a")))) Code.empty) Code.empty)
inner_block = Says.region (end_at 8) (IsRegion.block_word refl)
    (IsHead.both (IsId.there (IsIdentifier.bytes refl)) no_block_type) inner_jump (IsId.there (IsIdentifier.bytes refl))

-- the whole: two labels of one identifier, of which the inner one stands on the inner block
outer_block : Says instr
    (role.Begin ⊳ block_at 2 ∷ role.Label ⊳ id_at (codes "$a") 3 ∷ role.Begin ⊳ block_at 4
    ∷ role.Label ⊳ id_at (codes "$a") 5 ∷ role.Plain ⊳ br_at 6 ∷ role.Index ⊳ id_at (codes "$a") 7
    ∷ role.End ⊳ end_at 8 ∷ role.EndLabel ⊳ id_at (codes "$a") 9 ∷ role.End ⊳ end_at 10
    ∷ role.EndLabel ⊳ id_at (codes "$b") 11 ∷ [])
    (Code.region block
    (head (block_at 2) (Some (identifier 3 (codes "$a"))) (short None) None (Some (identifier 11 (codes "$b"))))
    (Code.region block
    (head (block_at 4) (Some (identifier 5 (codes "$a"))) (short None) None (Some (identifier 9 (codes "$a"))))
    (Code.op (indexed Br (named (identifier 7 (codes "$a")))) Code.empty) Code.empty)
    Code.empty)
outer_block = Says.region (end_at 10) (IsRegion.block_word refl)
    (IsHead.both (IsId.there (IsIdentifier.bytes refl)) no_block_type) (Says.more inner_block Says.none)
    (IsId.there (IsIdentifier.bytes refl))

-- ---- one nested instruction in another

-- `nop`
one_nop : Says instrs (role.Plain ⊳ nop_at 3 ∷ []) (Code.op (simple Nop) Code.empty)
one_nop = Says.more (Says.plain (IsPlain.simple_name refl)) Says.none

-- `loop nop end`
unfolded_loop : Says instr (role.Begin ⊳ loop_at 2 ∷ role.Plain ⊳ nop_at 3 ∷ role.End ⊳ end_at 4 ∷ [])
    (Code.region loop (head (loop_at 2) None (short None) None None) (Code.op (simple Nop) Code.empty) Code.empty)
unfolded_loop = Says.region (end_at 4) (IsRegion.loop_word refl) no_head one_nop IsId.absent

-- `if nop end`
if_alone : Says instr (role.Begin ⊳ if_at 2 ∷ role.Plain ⊳ nop_at 3 ∷ role.End ⊳ end_at 4 ∷ [])
    (Code.choice (head (if_at 2) None (short None) None None) (Code.op (simple Nop) Code.empty) Code.empty Code.empty)
if_alone = Says.if_then (end_at 4) refl no_head one_nop IsId.absent

-- `if nop else $c end $d`: of a part without instructions nothing but the identifier is left
if_with_else : Says instr
    (role.Begin ⊳ if_at 2 ∷ role.Plain ⊳ nop_at 3 ∷ role.Else ⊳ else_at 4 ∷ role.EndLabel ⊳ id_at (codes "$c") 5
    ∷ role.End ⊳ end_at 6 ∷ role.EndLabel ⊳ id_at (codes "$d") 7 ∷ [])
    (Code.choice
    (head (if_at 2) None (short None) (Some (identifier 5 (codes "$c"))) (Some (identifier 7 (codes "$d"))))
    (Code.op (simple Nop) Code.empty) Code.empty Code.empty)
if_with_else = Says.if_else (else_at 4) (end_at 6) refl no_head one_nop
    (IsId.there (IsIdentifier.bytes refl)) Says.none (IsId.there (IsIdentifier.bytes refl))

-- ---- `(block $a (if (br $a) (then)))`: the condition stands in front of the if, so its label 0 is that of the block

-- `(br $a)`
jump : Says foldedinstr
    (role.HeldPlain ⊳ br_at 8 ∷ role.Index ⊳ id_at (codes "$a") 9 ∷ role.HeldEnd ⊳ close 10 ∷ [])
    (Code.op (indexed Br (named (identifier 9 (codes "$a")))) Code.empty)
jump = Says.folded_plain (close 10) (IsPlain.index_name refl (IsIndex.id (IsIdentifier.bytes refl))) Says.no_folded

-- `(if (br $a) (then))`
folded_if : Says foldedinstr
    (role.HeldBegin ⊳ if_at 6 ∷ role.HeldPlain ⊳ br_at 8 ∷ role.Index ⊳ id_at (codes "$a") 9
    ∷ role.HeldEnd ⊳ close 10 ∷ role.Then ⊳ then_at 12 ∷ role.End ⊳ close 14 ∷ [])
    (Code.op (indexed Br (named (identifier 9 (codes "$a"))))
    (Code.choice (head (if_at 6) None (short None) None None) Code.empty Code.empty Code.empty))
folded_if = Says.folded_then (then_at 12) (close 14) refl no_head
    (Says.more_folded jump Says.no_folded) Says.none

-- the whole
folded_block : Says foldedinstr
    (role.Begin ⊳ block_at 3 ∷ role.Label ⊳ id_at (codes "$a") 4 ∷ role.HeldBegin ⊳ if_at 6
    ∷ role.HeldPlain ⊳ br_at 8 ∷ role.Index ⊳ id_at (codes "$a") 9 ∷ role.HeldEnd ⊳ close 10
    ∷ role.Then ⊳ then_at 12 ∷ role.End ⊳ close 14 ∷ role.End ⊳ close 15 ∷ [])
    (Code.region block (head (block_at 3) (Some (identifier 4 (codes "$a"))) (short None) None None)
    (Code.op (indexed Br (named (identifier 9 (codes "$a"))))
    (Code.choice (head (if_at 6) None (short None) None None) Code.empty Code.empty Code.empty))
    Code.empty)
folded_block = Says.folded_region (close 15) (IsRegion.block_word refl)
    (IsHead.both (IsId.there (IsIdentifier.bytes refl)) no_block_type)
    (Says.more (Says.folded folded_if) Says.none)

-- ---- `(if (result i32) (local.get $x) (then (i32.const 1)) (else (i32.const 2)))`, from token 11 of its text on

-- the kept tokens of `(i32.const N)`, by the numbers of three of them
abbrev pub const_row : ℕ → List ℕ → ℕ → ℕ → ℕ → List Said
const_row value text first second third =
    role.HeldPlain ⊳ const_at first ∷ role.Literal ⊳ natural value text second ∷ role.HeldEnd ⊳ close third ∷ []

-- `(i32.const N)`, wherever it stands
pub folded_const : {value : ℕ} {text : List ℕ} (first second third : ℕ) → Natural text value → value < 2 ^ 32
    → Says foldedinstr (const_row value text first second third) (Code.op (i32_const value) Code.empty)
folded_const first second third spelled fits = Says.folded_plain (close third)
    (IsPlain.i32_const_name refl (IsLiteral.spelled (Literal.unsigned spelled) fits)) Says.no_folded

-- 0
pub zero_spelled : Natural (codes "0") 0
unfolding digit_of
zero_spelled = Natural.decimal (Digits.one 48 (lit< tt))

-- 1
one_spelled : Natural (codes "1") 1
unfolding digit_of
one_spelled = Natural.decimal (Digits.one 49 (lit< tt))

-- 2
two_spelled : Natural (codes "2") 2
unfolding digit_of
two_spelled = Natural.decimal (Digits.one 50 (lit< tt))

-- `(local.get $x)`
condition : Says foldedinstr
    (role.HeldPlain ⊳ local_get_at 18 ∷ role.Index ⊳ id_at (codes "$x") 19 ∷ role.HeldEnd ⊳ close 20 ∷ [])
    (Code.op (indexed LocalGet (named (identifier 19 (codes "$x")))) Code.empty)
condition = Says.folded_plain (close 20) (IsPlain.index_name refl (IsIndex.id (IsIdentifier.bytes refl)))
    Says.no_folded

-- `(result i32)`
if_type : IsBlockType (role.ResultType ⊳ i32_at 15 ∷ []) (short (Some I32))
if_type = IsBlockType.one_type (IsTypeUse.inline (IsSignature.both AreParams.none
    (AreResults.more (AreTypes.more refl AreTypes.none) AreResults.none)))

-- the whole
folded_if_else : Says foldedinstr
    (role.HeldBegin ⊳ if_at 12 ∷ role.ResultType ⊳ i32_at 15 ∷ role.HeldPlain ⊳ local_get_at 18
    ∷ role.Index ⊳ id_at (codes "$x") 19 ∷ role.HeldEnd ⊳ close 20 ∷ role.Then ⊳ then_at 22
    ∷ const_row 1 (codes "1") 24 25 26 ++ role.Else ⊳ else_at 29 ∷ const_row 2 (codes "2") 31 32 33
    ++ role.End ⊳ close 35 ∷ [])
    (Code.op (indexed LocalGet (named (identifier 19 (codes "$x"))))
    (Code.choice (head (if_at 12) None (short (Some I32)) None None) (Code.op (i32_const 1) Code.empty)
    (Code.op (i32_const 2) Code.empty) Code.empty))
folded_if_else = Says.folded_else (then_at 22) (else_at 29) (close 35) refl (IsHead.both IsId.absent if_type)
    (Says.more_folded condition Says.no_folded)
    (Says.more (Says.folded (folded_const 24 25 26 one_spelled (lit< tt))) Says.none)
    (Says.more (Says.folded (folded_const 31 32 33 two_spelled (lit< tt))) Says.none)

-- ---- `(call_indirect (param i32) (i32.const 1) (call_indirect (result i32) (i32.const 0)))`: operands stand in front,
-- in their order; type uses keep their places by the numbers of their words

-- `(result i32)`
inner_use : IsTypeUse (role.ResultType ⊳ i32_at 16 ∷ []) (type_use None (signature [] (I32 ∷ [])))
inner_use = IsTypeUse.inline (IsSignature.both AreParams.none
    (AreResults.more (AreTypes.more refl AreTypes.none) AreResults.none))

-- `(call_indirect (result i32) (i32.const 0))`
inner_call : Says foldedinstr
    (role.HeldPlain ⊳ call_at 13 ∷ role.ResultType ⊳ i32_at 16 ∷ const_row 0 (codes "0") 19 20 21
    ++ role.HeldEnd ⊳ close 22 ∷ [])
    (Code.op (i32_const 0) (Code.op (call_indirect 13 (type_use None (signature [] (I32 ∷ [])))) Code.empty))
inner_call = Says.folded_plain (close 22) (IsPlain.call_indirect_name refl inner_use)
    (Says.more_folded (folded_const 19 20 21 zero_spelled (lit< tt)) Says.no_folded)

-- `(param i32)`
outer_use : IsTypeUse (role.ParamType ⊳ i32_at 6 ∷ []) (type_use None (signature (param None I32 ∷ []) []))
outer_use = IsTypeUse.inline (IsSignature.both
    (AreParams.more (IsParam.several (AreTypes.more refl AreTypes.none)) AreParams.none) AreResults.none)

-- the whole
outer_call : Says foldedinstr
    (role.HeldPlain ⊳ call_at 3 ∷ role.ParamType ⊳ i32_at 6 ∷ const_row 1 (codes "1") 9 10 11
    ++ role.HeldPlain ⊳ call_at 13 ∷ role.ResultType ⊳ i32_at 16 ∷ const_row 0 (codes "0") 19 20 21
    ++ role.HeldEnd ⊳ close 22 ∷ role.HeldEnd ⊳ close 23 ∷ [])
    (Code.op (i32_const 1)
    (Code.op (i32_const 0)
    (Code.op (call_indirect 13 (type_use None (signature [] (I32 ∷ []))))
    (Code.op (call_indirect 3 (type_use None (signature (param None I32 ∷ []) []))) Code.empty))))
outer_call = Says.folded_plain (close 23) (IsPlain.call_indirect_name refl outer_use)
    (Says.more_folded (folded_const 9 10 11 one_spelled (lit< tt)) (Says.more_folded inner_call Says.no_folded))
