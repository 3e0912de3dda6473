-- Folded instructions: the operands, and then the instruction.
use Rattle.std.proofs.Common.{List, [], ◌∷◌, ◌++◌, Some, None, false, refl, codes, lit≤}
use Rattle.wc_tokens.specs.Standard.Lexemes.{is_idchar}
use Rattle.wc_ops.specs.declared.op.SimpleOp.TheVariants.{Drop, I32Extend8S}
use Rattle.wc_ops.specs.declared.op.IndexOp.TheVariants.{LocalGet, GlobalSet}
use Rattle.wc_ops.specs.declared.op.MemOp.TheVariants.{I32Load}
use Rattle.wc_ops.specs.declared.val_type.ValType.TheVariants.{I32}
use Rattle.wc_body.specs.Standard.Nested.{Code}
use Rattle.wc_syntax.specs.declared.role.Role.TheVariants as role
use Rattle.wc_syntax.specs.Standard.Deriving.{then, left, right, none, more, rule}
use Rattle.wc_surface.specs.Standard.Identifiers.{identifier}
use Rattle.wc_surface.specs.Standard.Written.Indices.{number, named}
use Rattle.wc_surface.specs.Standard.Written.Instructions.{simple, indexed, access, i32_const, short}
use Rattle.wc_surface.specs.Standard.Written.Fields.{Function, Memory, Global, func_field, memory_field, global_field}
use Rattle.wc_parse_code.specs.Standard.Productions.Tokens.{IsIdentifier, IsId, IsIndex}
use Rattle.wc_parse_code.specs.Standard.Productions.TypeUses.{AreTypes, param, IsParam, AreParams, AreResults}
use Rattle.wc_parse_code.specs.Standard.Productions.TypeUses.{signature, IsSignature, type_use, IsTypeUse, IsBlockType}
use Rattle.wc_parse_code.specs.Standard.Productions.Plain.{IsMemOffset, IsMemAlign, IsMemArg, IsPlain}
use Rattle.wc_parse_code.specs.Standard.Productions.Instructions.{IsHead, head, Says}
use Rattle.wc_parse_field.specs.Standard.Productions.Parts.{AreLocals, AreLimits, IsGlobalType}
use Rattle.wc_parse_field.specs.Standard.Productions.Fields.{IsFunction, IsMemory, IsGlobal, IsField, AreFields}
use Rattle.wc_parse.proofs.Examples.Rows.Lexed.Tokens.{Placed, near, near_as, next, next_as}
use Rattle.wc_parse.proofs.Examples.Rows.Lexed.Reading.{Reads, reads}
use Rattle.wc_parse.proofs.Examples.Rows.Lexed.Words.{lp, rp, id_word, i32_word, func_word, memory_word, global_word}
use Rattle.wc_parse.proofs.Examples.Rows.Lexed.Words.{param_word, result_word, then_word, else_word, if_word}
use Rattle.wc_parse.proofs.Examples.Rows.Lexed.Words.{local_get_word, global_set_word, const_word, drop_word}
use Rattle.wc_parse.proofs.Examples.Rows.Lexed.Words.{extend_word, load_word, kept, is_natural, zero_word, zero_literal}
use Rattle.wc_parse.proofs.Examples.Rows.Lexed.Words.{one_word, one_literal, two_word, two_literal, align_8_word}
use Rattle.wc_parse.proofs.Examples.Rows.Lexed.Words.{align_1_word, offset_4_word}
use Rattle.wc_parse.proofs.Examples.Rows.Parts.Absent.{undeclared, plainly, no_type_use}
use Rattle.wc_parse.proofs.Examples.Rows.Lexed.Grammar.{skip, keep, absent, no_use, no_export, fields, a_func, a_memory}
use Rattle.wc_parse.proofs.Examples.Rows.Lexed.Grammar.{a_global, named_param, a_folded, folded_plain, folded_if}
use Rattle.wc_parse.proofs.Examples.Rows.Lexed.Grammar.{simple_name, index_name, access_name, const_name}

-- `(func (param $x i32) (result i32) (if (result i32) (local.get $x) (then (i32.const 1)) (else (i32.const 2))))`
abbrev if_on_a_local_tokens : List Placed
if_on_a_local_tokens =
    near lp ∷ near_as role.Field func_word ∷ next lp ∷ near param_word ∷ next_as role.ParamId (id_word (codes "$x"))
    ∷ next_as role.ParamType i32_word ∷ near rp ∷ next lp ∷ near result_word ∷ next_as role.ResultType i32_word
    ∷ near rp ∷ next lp ∷ near_as role.HeldBegin if_word ∷ next lp ∷ near result_word ∷ next_as role.ResultType i32_word
    ∷ near rp ∷ next lp ∷ near_as role.HeldPlain local_get_word ∷ next_as role.Index (id_word (codes "$x"))
    ∷ near_as role.HeldEnd rp ∷ next lp ∷ near_as role.Then then_word ∷ next lp ∷ near_as role.HeldPlain const_word
    ∷ next_as role.Literal one_word ∷ near_as role.HeldEnd rp ∷ near rp ∷ next lp ∷ near_as role.Else else_word
    ∷ next lp ∷ near_as role.HeldPlain const_word ∷ next_as role.Literal two_word ∷ near_as role.HeldEnd rp ∷ near rp
    ∷ near_as role.End rp ∷ near_as role.FieldEnd rp ∷ []

if_on_a_local : Reads
    (codes "(func (param $x i32) (result i32) (if (result i32) (local.get $x) (then (i32.const 1)) (else"
    ++ codes " (i32.const 2))))")
    (func_field 1 undeclared (Function.code
    (type_use None (signature (param (Some (identifier 4 (codes "$x"))) I32 ∷ []) (I32 ∷ []))) []
    (Code.op (indexed LocalGet (named (identifier 19 (codes "$x")))) (Code.choice
    (head (kept if_word 12) None (short (Some I32)) None None) (Code.op (i32_const 1) Code.empty)
    (Code.op (i32_const 2) Code.empty) Code.empty))) ∷ [])
unfolding is_idchar
if_on_a_local = reads if_on_a_local_tokens refl (lit≤ tt)
    (fields (more (a_func (then skip (then keep (then no_export (then (right
    (then (rule (then absent (then (more (named_param (then skip (then skip (then keep (then keep skip))))) none)
    (more (rule (then skip (then skip (then (more keep none) skip)))) none))))
    (then none (more (a_folded (folded_if (then skip (then keep (then (then absent
    (rule (then absent (then none (more (rule (then skip (then skip (then (more keep none) skip)))) none)))))
    (then (more (folded_plain (then skip (then (index_name (then keep (right keep))) (then none keep)))) none)
    (then skip (then keep (then
    (more (a_folded (folded_plain (then skip (then (const_name (then keep (left keep))) (then none keep))))) none)
    (then skip (then (right (then skip (then keep (then
    (more (a_folded (folded_plain (then skip (then (const_name (then keep (left keep))) (then none keep))))) none)
    skip)))) keep))))))))))) none)))) keep))))) none))
    (AreFields.more (kept rp 36) (IsField.func_word refl plainly (IsFunction.code
    (IsTypeUse.inline (IsSignature.both (AreParams.more (IsParam.one (IsIdentifier.bytes refl) refl) AreParams.none)
    (AreResults.more (AreTypes.more refl AreTypes.none) AreResults.none))) AreLocals.none
    (Says.more (Says.folded (Says.folded_else (kept then_word 22) (kept else_word 29) (kept rp 35) refl
    (IsHead.both IsId.absent (IsBlockType.one_type (IsTypeUse.inline
    (IsSignature.both AreParams.none (AreResults.more (AreTypes.more refl AreTypes.none) AreResults.none)))))
    (Says.more_folded
    (Says.folded_plain (kept rp 20) (IsPlain.index_name refl (IsIndex.id (IsIdentifier.bytes refl))) Says.no_folded)
    Says.no_folded) (Says.more
    (Says.folded (Says.folded_plain (kept rp 26) (IsPlain.i32_const_name refl one_literal) Says.no_folded)) Says.none)
    (Says.more (Says.folded (Says.folded_plain (kept rp 33) (IsPlain.i32_const_name refl two_literal) Says.no_folded))
    Says.none))) Says.none))) AreFields.none)

-- `(memory 1) (func (drop (i32.load align=8 (i32.const 0))))`: that 8 is too much is judged later
abbrev aligned_load_tokens : List Placed
aligned_load_tokens =
    near lp ∷ near_as role.Field memory_word ∷ next_as role.LimitsMin one_word ∷ near_as role.FieldEnd rp ∷ next lp
    ∷ near_as role.Field func_word ∷ next lp ∷ near_as role.HeldPlain drop_word ∷ next lp
    ∷ near_as role.HeldPlain load_word ∷ next_as role.MemAlign align_8_word ∷ next lp
    ∷ near_as role.HeldPlain const_word ∷ next_as role.Literal zero_word ∷ near_as role.HeldEnd rp
    ∷ near_as role.HeldEnd rp ∷ near_as role.HeldEnd rp ∷ near_as role.FieldEnd rp ∷ []

aligned_load : Reads (codes "(memory 1) (func (drop (i32.load align=8 (i32.const 0))))")
    (memory_field undeclared (Memory.limits (record { min = 1; max = None }))
    ∷ func_field 5 undeclared (Function.code (type_use None (signature [] [])) []
    (Code.op (i32_const 0)
    (Code.op (access I32Load (record { offset = None; align = Some 3 })) (Code.op (simple Drop) Code.empty)))) ∷ [])
unfolding is_idchar
aligned_load = reads aligned_load_tokens refl (lit≤ tt)
    (fields (more (a_memory (then skip (then keep (then no_export (then (right (left (then keep absent))) keep)))))
    (more (a_func (then skip (then keep (then no_export (then (right (then no_use
    (then none (more (a_folded (folded_plain (then skip (then (simple_name keep)
    (then (more (folded_plain (then skip (then (access_name (then keep (then absent (right keep))))
    (then (more (folded_plain (then skip (then (const_name (then keep (left keep))) (then none keep)))) none) keep))))
    none) keep))))) none)))) keep))))) none)))
    (AreFields.more (kept rp 3) (IsField.memory_word refl plainly (IsMemory.limits (AreLimits.least is_natural)))
    (AreFields.more (kept rp 17) (IsField.func_word refl plainly (IsFunction.code no_type_use AreLocals.none
    (Says.more (Says.folded (Says.folded_plain (kept rp 16) (IsPlain.simple_name refl)
    (Says.more_folded (Says.folded_plain (kept rp 15)
    (IsPlain.access_name refl (IsMemArg.both IsMemOffset.absent (IsMemAlign.there refl)))
    (Says.more_folded (Says.folded_plain (kept rp 14) (IsPlain.i32_const_name refl zero_literal) Says.no_folded)
    Says.no_folded)) Says.no_folded))) Says.none))) AreFields.none))

-- `(memory 1) (func (drop (i32.load offset=4 align=1 (i32.const 0))))`
abbrev load_at_an_offset_tokens : List Placed
load_at_an_offset_tokens =
    near lp ∷ near_as role.Field memory_word ∷ next_as role.LimitsMin one_word ∷ near_as role.FieldEnd rp ∷ next lp
    ∷ near_as role.Field func_word ∷ next lp ∷ near_as role.HeldPlain drop_word ∷ next lp
    ∷ near_as role.HeldPlain load_word ∷ next_as role.MemOffset offset_4_word ∷ next_as role.MemAlign align_1_word
    ∷ next lp ∷ near_as role.HeldPlain const_word ∷ next_as role.Literal zero_word ∷ near_as role.HeldEnd rp
    ∷ near_as role.HeldEnd rp ∷ near_as role.HeldEnd rp ∷ near_as role.FieldEnd rp ∷ []

load_at_an_offset : Reads (codes "(memory 1) (func (drop (i32.load offset=4 align=1 (i32.const 0))))")
    (memory_field undeclared (Memory.limits (record { min = 1; max = None }))
    ∷ func_field 5 undeclared (Function.code (type_use None (signature [] [])) []
    (Code.op (i32_const 0)
    (Code.op (access I32Load (record { offset = Some 4; align = Some 0 })) (Code.op (simple Drop) Code.empty)))) ∷ [])
unfolding is_idchar
load_at_an_offset = reads load_at_an_offset_tokens refl (lit≤ tt)
    (fields (more (a_memory (then skip (then keep (then no_export (then (right (left (then keep absent))) keep)))))
    (more (a_func (then skip (then keep (then no_export (then (right (then no_use
    (then none (more (a_folded (folded_plain (then skip (then (simple_name keep)
    (then (more (folded_plain (then skip (then (access_name (then keep (then (right keep) (right keep))))
    (then (more (folded_plain (then skip (then (const_name (then keep (left keep))) (then none keep)))) none) keep))))
    none) keep))))) none)))) keep))))) none)))
    (AreFields.more (kept rp 3) (IsField.memory_word refl plainly (IsMemory.limits (AreLimits.least is_natural)))
    (AreFields.more (kept rp 18) (IsField.func_word refl plainly (IsFunction.code no_type_use AreLocals.none
    (Says.more (Says.folded (Says.folded_plain (kept rp 17) (IsPlain.simple_name refl)
    (Says.more_folded (Says.folded_plain (kept rp 16)
    (IsPlain.access_name refl (IsMemArg.both (IsMemOffset.there refl) (IsMemAlign.there refl)))
    (Says.more_folded (Says.folded_plain (kept rp 15) (IsPlain.i32_const_name refl zero_literal) Says.no_folded)
    Says.no_folded)) Says.no_folded))) Says.none))) AreFields.none))

-- `(func (drop (i32.extend8_s (i32.const 1))))`
abbrev extended_byte_tokens : List Placed
extended_byte_tokens =
    near lp ∷ near_as role.Field func_word ∷ next lp ∷ near_as role.HeldPlain drop_word ∷ next lp
    ∷ near_as role.HeldPlain extend_word ∷ next lp ∷ near_as role.HeldPlain const_word ∷ next_as role.Literal one_word
    ∷ near_as role.HeldEnd rp ∷ near_as role.HeldEnd rp ∷ near_as role.HeldEnd rp ∷ near_as role.FieldEnd rp ∷ []

extended_byte : Reads (codes "(func (drop (i32.extend8_s (i32.const 1))))")
    (func_field 1 undeclared (Function.code (type_use None (signature [] [])) []
    (Code.op (i32_const 1) (Code.op (simple I32Extend8S) (Code.op (simple Drop) Code.empty)))) ∷ [])
unfolding is_idchar
extended_byte = reads extended_byte_tokens refl (lit≤ tt)
    (fields (more (a_func (then skip (then keep (then no_export (then (right
    (then no_use (then none (more (a_folded (folded_plain (then skip (then (simple_name keep)
    (then (more (folded_plain (then skip (then (simple_name keep)
    (then (more (folded_plain (then skip (then (const_name (then keep (left keep))) (then none keep)))) none) keep))))
    none) keep))))) none)))) keep))))) none))
    (AreFields.more (kept rp 12) (IsField.func_word refl plainly (IsFunction.code no_type_use AreLocals.none
    (Says.more (Says.folded (Says.folded_plain (kept rp 11) (IsPlain.simple_name refl)
    (Says.more_folded (Says.folded_plain (kept rp 10) (IsPlain.simple_name refl)
    (Says.more_folded (Says.folded_plain (kept rp 9) (IsPlain.i32_const_name refl one_literal) Says.no_folded)
    Says.no_folded)) Says.no_folded))) Says.none))) AreFields.none)

-- `(global i32 (i32.const 0)) (func (global.set 0 (i32.const 1)))`: that the global is constant is judged later
abbrev constant_set_tokens : List Placed
constant_set_tokens =
    near lp ∷ near_as role.Field global_word ∷ next_as role.GlobalType i32_word ∷ next lp
    ∷ near_as role.HeldPlain const_word ∷ next_as role.Literal zero_word ∷ near_as role.HeldEnd rp
    ∷ near_as role.FieldEnd rp ∷ next lp ∷ near_as role.Field func_word ∷ next lp
    ∷ near_as role.HeldPlain global_set_word ∷ next_as role.Index zero_word ∷ next lp
    ∷ near_as role.HeldPlain const_word ∷ next_as role.Literal one_word ∷ near_as role.HeldEnd rp
    ∷ near_as role.HeldEnd rp ∷ near_as role.FieldEnd rp ∷ []

constant_set : Reads (codes "(global i32 (i32.const 0)) (func (global.set 0 (i32.const 1)))")
    (global_field undeclared (Global.init (record { ty = I32; mutable = false }) (Code.op (i32_const 0) Code.empty))
    ∷ func_field 9 undeclared (Function.code (type_use None (signature [] [])) []
    (Code.op (i32_const 1) (Code.op (indexed GlobalSet (number 12 0)) Code.empty))) ∷ [])
unfolding is_idchar
constant_set = reads constant_set_tokens refl (lit≤ tt)
    (fields (more (a_global (then skip (then keep (then no_export (then (right
    (then (left keep)
    (more (a_folded (folded_plain (then skip (then (const_name (then keep (left keep))) (then none keep))))) none)))
    keep))))) (more (a_func (then skip (then keep (then no_export (then (right
    (then no_use (then none (more (a_folded (folded_plain (then skip (then (index_name (then keep (left keep)))
    (then (more (folded_plain (then skip (then (const_name (then keep (left keep))) (then none keep)))) none) keep)))))
    none)))) keep))))) none)))
    (AreFields.more (kept rp 7) (IsField.global_word refl plainly (IsGlobal.init (IsGlobalType.constant refl)
    (Says.more (Says.folded (Says.folded_plain (kept rp 6) (IsPlain.i32_const_name refl zero_literal) Says.no_folded))
    Says.none))) (AreFields.more (kept rp 18) (IsField.func_word refl plainly
    (IsFunction.code no_type_use AreLocals.none (Says.more (Says.folded (Says.folded_plain (kept rp 17)
    (IsPlain.index_name refl (IsIndex.u32 is_natural)) (Says.more_folded
    (Says.folded_plain (kept rp 16) (IsPlain.i32_const_name refl one_literal) Says.no_folded) Says.no_folded)))
    Says.none))) AreFields.none))
