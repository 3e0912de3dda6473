-- Modules as they are printed, but for the last line end.
use Rattle.std.proofs.Common.{List, [], ◌∷◌, ◌++◌, Some, None, refl, codes, lit≤}
use Rattle.wc_tokens.specs.Standard.Lexemes.{is_idchar}
use Rattle.wc_ops.specs.declared.op.SimpleOp.TheVariants.{Drop}
use Rattle.wc_ops.specs.declared.op.IndexOp.TheVariants.{LocalGet}
use Rattle.wc_ops.specs.declared.op.MemOp.TheVariants.{I32Load}
use Rattle.wc_ops.specs.declared.val_type.ValType.TheVariants.{I32, I64}
use Rattle.wc_ast.specs.declared.export.ExportKind.TheVariants as export
use Rattle.wc_body.specs.Standard.Nested.{Code}
use Rattle.wc_syntax.specs.declared.role.Role.TheVariants as role
use Rattle.wc_syntax.specs.Standard.Deriving.{then, left, right, none, more, rule}
use Rattle.wc_surface.specs.Standard.Written.Indices.{number}
use Rattle.wc_surface.specs.Standard.Written.Instructions.{simple, indexed, access, i32_const, short}
use Rattle.wc_surface.specs.Standard.Written.Fields.{Desc, Function, Memory, type_field, import_field, func_field}
use Rattle.wc_surface.specs.Standard.Written.Fields.{memory_field, export_field, data_field}
use Rattle.wc_parse_code.specs.Standard.Productions.Tokens.{IsId, IsIndex}
use Rattle.wc_parse_code.specs.Standard.Productions.TypeUses.{AreTypes, param, IsParam, AreParams, AreResults}
use Rattle.wc_parse_code.specs.Standard.Productions.TypeUses.{signature, IsSignature, type_use, IsTypeUse, IsBlockType}
use Rattle.wc_parse_code.specs.Standard.Productions.Plain.{IsMemOffset, IsMemAlign, IsMemArg, IsPlain}
use Rattle.wc_parse_code.specs.Standard.Productions.Instructions.{IsHead, head, Says}
use Rattle.wc_parse_field.specs.Standard.Productions.Parts.{AreStrings, IsImport, AreLocals, AreLimits, IsKind}
use Rattle.wc_parse_field.specs.Standard.Productions.Parts.{IsOffset, IsTarget}
use Rattle.wc_parse_field.specs.Standard.Productions.Fields.{IsDesc, IsFunction, IsMemory, IsField, AreFields}
use Rattle.wc_parse.proofs.Examples.Rows.Lexed.Tokens.{Placed, placed, near, near_as, next, next_as}
use Rattle.wc_parse.proofs.Examples.Rows.Lexed.Reading.{Reads, reads}
use Rattle.wc_parse.proofs.Examples.Rows.Lexed.Words.{lp, rp, i32_word, i64_word, func_word, type_word, import_word}
use Rattle.wc_parse.proofs.Examples.Rows.Lexed.Words.{memory_word, export_word, data_word, offset_word, param_word}
use Rattle.wc_parse.proofs.Examples.Rows.Lexed.Words.{result_word, module_word, else_word, end_word, if_word}
use Rattle.wc_parse.proofs.Examples.Rows.Lexed.Words.{local_get_word, const_word, drop_word, load_word, kept}
use Rattle.wc_parse.proofs.Examples.Rows.Lexed.Words.{is_natural, zero_word, zero_literal, one_word, one_literal}
use Rattle.wc_parse.proofs.Examples.Rows.Lexed.Words.{two_word, two_literal, align_1_word, offset_4_word}
use Rattle.wc_parse.proofs.Examples.Rows.Lexed.Strings.{a_word, a_is_name, b_word, b_is_name, m_word, m_is_name, n_word}
use Rattle.wc_parse.proofs.Examples.Rows.Lexed.Strings.{n_is_name, four_bytes, bytes_word}
use Rattle.wc_parse.proofs.Examples.Rows.Lexed.Layout.{below, indented, deeper}
use Rattle.wc_parse.proofs.Examples.Rows.Parts.Absent.{undeclared, plainly, no_signature}
use Rattle.wc_parse.proofs.Examples.Rows.Lexed.Grammar.{skip, keep, absent, no_export, in_module, a_type, an_import}
use Rattle.wc_parse.proofs.Examples.Rows.Lexed.Grammar.{a_func, a_memory, an_export, a_data, long_offset, params}
use Rattle.wc_parse.proofs.Examples.Rows.Lexed.Grammar.{a_plain, an_if, simple_name, index_name, access_name}
use Rattle.wc_parse.proofs.Examples.Rows.Lexed.Grammar.{const_name}

-- `(module
--   (type (func (param i32) (result i32)))
--   (func (type 0)
--     local.get 0
--     if (result i32)
--     i32.const 1
--     else
--     i32.const 2
--     end
--   )
-- )`
abbrev printed_if_tokens : List Placed
printed_if_tokens =
    near lp ∷ near module_word ∷ placed indented None lp ∷ near_as role.Field type_word ∷ next lp ∷ near func_word
    ∷ next lp ∷ near param_word ∷ next_as role.ParamType i32_word ∷ near rp ∷ next lp ∷ near result_word
    ∷ next_as role.ResultType i32_word ∷ near rp ∷ near rp ∷ near_as role.FieldEnd rp ∷ placed indented None lp
    ∷ near_as role.Field func_word ∷ next lp ∷ near type_word ∷ next_as role.TypeIndex zero_word ∷ near rp
    ∷ placed deeper (Some role.Plain) local_get_word ∷ next_as role.Index zero_word
    ∷ placed deeper (Some role.Begin) if_word ∷ next lp ∷ near result_word ∷ next_as role.ResultType i32_word ∷ near rp
    ∷ placed deeper (Some role.Plain) const_word ∷ next_as role.Literal one_word
    ∷ placed deeper (Some role.Else) else_word ∷ placed deeper (Some role.Plain) const_word
    ∷ next_as role.Literal two_word ∷ placed deeper (Some role.End) end_word ∷ placed indented (Some role.FieldEnd) rp
    ∷ placed below None rp ∷ []

printed_if : Reads
    (codes "(module\n  (type (func (param i32) (result i32)))\n  (func (type 0)\n    local.get 0\n    if"
    ++ codes " (result i32)\n    i32.const 1\n    else\n    i32.const 2\n    end\n  )\n)")
    (type_field None (signature (param None I32 ∷ []) (I32 ∷ []))
    ∷ func_field 17 undeclared (Function.code (type_use (Some (number 20 0)) (signature [] [])) []
    (Code.op (indexed LocalGet (number 23 0)) (Code.choice (head (kept if_word 24) None (short (Some I32)) None None)
    (Code.op (i32_const 1) Code.empty) (Code.op (i32_const 2) Code.empty) Code.empty))) ∷ [])
unfolding is_idchar
printed_if = reads printed_if_tokens refl (lit≤ tt)
    (in_module (then skip (then skip (then absent (then (more (a_type (then skip
    (then keep (then absent (then (then skip (then skip (then
    (more (params (then skip (then skip (then (more keep none) skip)))) none)
    (then (more (rule (then skip (then skip (then (more keep none) skip)))) none) skip)))) keep)))))
    (more (a_func (then skip (then keep (then no_export (then (right (then
    (rule (then (right (then skip (then skip (then (left keep) skip)))) (then none none)))
    (then none (more (a_plain (index_name (then keep (left keep)))) (more (an_if
    (then keep (then (then absent
    (rule (then absent (then none (more (rule (then skip (then skip (then (more keep none) skip)))) none)))))
    (then (more (a_plain (const_name (then keep (left keep)))) none) (then
    (right (then keep (then absent (more (a_plain (const_name (then keep (left keep)))) none)))) (then keep absent))))))
    none))))) keep))))) none)) skip)))))
    (AreFields.more (kept rp 15) (IsField.type_word refl IsId.absent (IsSignature.both
    (AreParams.more (IsParam.several (AreTypes.more refl AreTypes.none)) AreParams.none)
    (AreResults.more (AreTypes.more refl AreTypes.none) AreResults.none))) (AreFields.more (kept rp 35)
    (IsField.func_word refl plainly (IsFunction.code (IsTypeUse.indexed (IsIndex.u32 is_natural) no_signature)
    AreLocals.none (Says.more (Says.plain (IsPlain.index_name refl (IsIndex.u32 is_natural)))
    (Says.more (Says.if_else (kept else_word 31) (kept end_word 34) refl (IsHead.both IsId.absent
    (IsBlockType.one_type (IsTypeUse.inline
    (IsSignature.both AreParams.none (AreResults.more (AreTypes.more refl AreTypes.none) AreResults.none)))))
    (Says.more (Says.plain (IsPlain.i32_const_name refl one_literal)) Says.none) IsId.absent
    (Says.more (Says.plain (IsPlain.i32_const_name refl two_literal)) Says.none) IsId.absent) Says.none))))
    AreFields.none))

-- `(module
--   (memory 1 1)
--   (data 0 (offset i32.const 0) "\00\ff\c3\a9")
-- )`
abbrev printed_bytes_tokens : List Placed
printed_bytes_tokens =
    near lp ∷ near module_word ∷ placed indented None lp ∷ near_as role.Field memory_word
    ∷ next_as role.LimitsMin one_word ∷ next_as role.LimitsMax one_word ∷ near_as role.FieldEnd rp
    ∷ placed indented None lp ∷ near_as role.Field data_word ∷ next_as role.Target zero_word ∷ next lp
    ∷ near offset_word ∷ next_as role.Plain const_word ∷ next_as role.Literal zero_word ∷ near rp
    ∷ next_as role.Bytes bytes_word ∷ near_as role.FieldEnd rp ∷ placed below None rp ∷ []

printed_bytes : Reads (codes "(module\n  (memory 1 1)\n  (data 0 (offset i32.const 0) \"\\00\\ff\\c3\\a9\")\n)")
    (memory_field undeclared (Memory.limits (record { min = 1; max = Some 1 }))
    ∷ data_field (Some (number 9 0)) (Code.op (i32_const 0) Code.empty) (0 ∷ 0xFF ∷ 0xC3 ∷ 0xA9 ∷ []) ∷ [])
unfolding is_idchar
printed_bytes = reads printed_bytes_tokens refl (lit≤ tt)
    (in_module (then skip (then skip (then absent (then (more
    (a_memory (then skip (then keep (then no_export (then (right (left (then keep (right keep)))) keep)))))
    (more (a_data (then skip (then keep (then (right (left keep)) (then
    (long_offset (then skip (then skip (then (more (a_plain (const_name (then keep (left keep)))) none) skip))))
    (then (more (right keep) none) keep)))))) none)) skip)))))
    (AreFields.more (kept rp 6)
    (IsField.memory_word refl plainly (IsMemory.limits (AreLimits.both is_natural is_natural)))
    (AreFields.more (kept rp 16) (IsField.data_word refl (IsTarget.there (IsIndex.u32 is_natural))
    (IsOffset.word (Says.more (Says.plain (IsPlain.i32_const_name refl zero_literal)) Says.none))
    (AreStrings.more four_bytes AreStrings.none)) AreFields.none))

-- `(module
--   (type (func))
--   (func (type 0)
--     i32.const 0
--     i32.load offset=4 align=1
--     drop
--   )
--   (memory 1)
-- )`
abbrev printed_load_tokens : List Placed
printed_load_tokens =
    near lp ∷ near module_word ∷ placed indented None lp ∷ near_as role.Field type_word ∷ next lp ∷ near func_word
    ∷ near rp ∷ near_as role.FieldEnd rp ∷ placed indented None lp ∷ near_as role.Field func_word ∷ next lp
    ∷ near type_word ∷ next_as role.TypeIndex zero_word ∷ near rp ∷ placed deeper (Some role.Plain) const_word
    ∷ next_as role.Literal zero_word ∷ placed deeper (Some role.Plain) load_word ∷ next_as role.MemOffset offset_4_word
    ∷ next_as role.MemAlign align_1_word ∷ placed deeper (Some role.Plain) drop_word
    ∷ placed indented (Some role.FieldEnd) rp ∷ placed indented None lp ∷ near_as role.Field memory_word
    ∷ next_as role.LimitsMin one_word ∷ near_as role.FieldEnd rp ∷ placed below None rp ∷ []

printed_load : Reads
    (codes "(module\n  (type (func))\n  (func (type 0)\n    i32.const 0\n    i32.load offset=4 align=1"
    ++ codes "\n    drop\n  )\n  (memory 1)\n)")
    (type_field None (signature [] [])
    ∷ func_field 9 undeclared (Function.code (type_use (Some (number 12 0)) (signature [] [])) []
    (Code.op (i32_const 0)
    (Code.op (access I32Load (record { offset = Some 4; align = Some 0 })) (Code.op (simple Drop) Code.empty))))
    ∷ memory_field undeclared (Memory.limits (record { min = 1; max = None })) ∷ [])
unfolding is_idchar
printed_load = reads printed_load_tokens refl (lit≤ tt)
    (in_module (then skip (then skip (then absent (then (more
    (a_type (then skip (then keep (then absent (then (then skip (then skip (then none (then none skip)))) keep)))))
    (more (a_func (then skip (then keep (then no_export (then (right (then
    (rule (then (right (then skip (then skip (then (left keep) skip)))) (then none none)))
    (then none (more (a_plain (const_name (then keep (left keep)))) (more
    (a_plain (access_name (then keep (then (right keep) (right keep))))) (more (a_plain (simple_name keep)) none))))))
    keep)))))
    (more (a_memory (then skip (then keep (then no_export (then (right (left (then keep absent))) keep))))) none)))
    skip)))))
    (AreFields.more (kept rp 7) (IsField.type_word refl IsId.absent no_signature)
    (AreFields.more (kept rp 20) (IsField.func_word refl plainly (IsFunction.code
    (IsTypeUse.indexed (IsIndex.u32 is_natural) no_signature) AreLocals.none
    (Says.more (Says.plain (IsPlain.i32_const_name refl zero_literal)) (Says.more
    (Says.plain (IsPlain.access_name refl (IsMemArg.both (IsMemOffset.there refl) (IsMemAlign.there refl))))
    (Says.more (Says.plain (IsPlain.simple_name refl)) Says.none))))) (AreFields.more (kept rp 24)
    (IsField.memory_word refl plainly (IsMemory.limits (AreLimits.least is_natural))) AreFields.none)))

-- `(module
--   (type (func (param i64)))
--   (import "m" "n" (func (type 0)))
--   (export "a" (func 0))
--   (export "b" (func 0))
-- )`
abbrev printed_import_tokens : List Placed
printed_import_tokens =
    near lp ∷ near module_word ∷ placed indented None lp ∷ near_as role.Field type_word ∷ next lp ∷ near func_word
    ∷ next lp ∷ near param_word ∷ next_as role.ParamType i64_word ∷ near rp ∷ near rp ∷ near_as role.FieldEnd rp
    ∷ placed indented None lp ∷ near_as role.Field import_word ∷ next_as role.ModuleName m_word
    ∷ next_as role.ItemName n_word ∷ next lp ∷ near_as role.Description func_word ∷ next lp ∷ near type_word
    ∷ next_as role.TypeIndex zero_word ∷ near rp ∷ near rp ∷ near_as role.FieldEnd rp ∷ placed indented None lp
    ∷ near_as role.Field export_word ∷ next_as role.ExportName a_word ∷ next lp ∷ near_as role.Description func_word
    ∷ next_as role.Target zero_word ∷ near rp ∷ near_as role.FieldEnd rp ∷ placed indented None lp
    ∷ near_as role.Field export_word ∷ next_as role.ExportName b_word ∷ next lp ∷ near_as role.Description func_word
    ∷ next_as role.Target zero_word ∷ near rp ∷ near_as role.FieldEnd rp ∷ placed below None rp ∷ []

printed_import : Reads
    (codes "(module\n  (type (func (param i64)))\n  (import \"m\" \"n\" (func (type 0)))\n  (export \"a\""
    ++ codes " (func 0))\n  (export \"b\" (func 0))\n)")
    (type_field None (signature (param None I64 ∷ []) [])
    ∷ import_field (record { token = 13; «module» = codes "m"; item = codes "n" }) None
    (Desc.func (type_use (Some (number 20 0)) (signature [] []))) ∷ export_field (codes "a") export.Func (number 29 0)
    ∷ export_field (codes "b") export.Func (number 37 0) ∷ [])
unfolding is_idchar
printed_import = reads printed_import_tokens refl (lit≤ tt)
    (in_module (then skip (then skip (then absent (then (more (a_type (then skip
    (then keep (then absent (then (then skip
    (then skip (then (more (params (then skip (then skip (then (more keep none) skip)))) none) (then none skip))))
    keep))))) (more (an_import (then skip (then keep (then (then keep keep) (then skip
    (then (left
    (then keep (then absent (rule (then (right (then skip (then skip (then (left keep) skip)))) (then none none))))))
    (then skip keep))))))) (more
    (an_export (then skip (then keep (then keep (then skip (then (left keep) (then (left keep) (then skip keep))))))))
    (more
    (an_export (then skip (then keep (then keep (then skip (then (left keep) (then (left keep) (then skip keep))))))))
    none)))) skip)))))
    (AreFields.more (kept rp 11) (IsField.type_word refl IsId.absent (IsSignature.both
    (AreParams.more (IsParam.several (AreTypes.more refl AreTypes.none)) AreParams.none) AreResults.none))
    (AreFields.more (kept rp 23) (IsField.import_word refl (IsImport.names m_is_name n_is_name)
    (IsDesc.func refl IsId.absent (IsTypeUse.indexed (IsIndex.u32 is_natural) no_signature)))
    (AreFields.more (kept rp 31) (IsField.export_word refl a_is_name (IsKind.func refl) (IsIndex.u32 is_natural))
    (AreFields.more (kept rp 39) (IsField.export_word refl b_is_name (IsKind.func refl) (IsIndex.u32 is_natural))
    AreFields.none))))
