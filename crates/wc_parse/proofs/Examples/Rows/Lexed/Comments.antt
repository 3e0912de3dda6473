-- A module with numbers in comments, which are no tokens.
use Rattle.std.proofs.Common.{List, [], ◌∷◌, ◌++◌, Some, None, refl, codes, lit≤}
use Rattle.wc_tokens.specs.Standard.Lexemes.{is_idchar}
use Rattle.wc_ops.specs.declared.op.SimpleOp.TheVariants.{I32Add}
use Rattle.wc_ops.specs.declared.op.IndexOp.TheVariants.{LocalGet}
use Rattle.wc_ops.specs.declared.val_type.ValType.TheVariants.{I32}
use Rattle.wc_ast.specs.declared.export.ExportKind.TheVariants as export
use Rattle.wc_body.specs.Standard.Nested.{Code}
use Rattle.wc_syntax.specs.declared.role.Role.TheVariants as role
use Rattle.wc_syntax.specs.Standard.Deriving.{then, left, right, none, more, rule}
use Rattle.wc_surface.specs.Standard.Written.Indices.{number}
use Rattle.wc_surface.specs.Standard.Written.Instructions.{simple, indexed, i32_const}
use Rattle.wc_surface.specs.Standard.Written.Fields.{Function, Table, type_field, func_field, table_field, export_field}
use Rattle.wc_surface.specs.Standard.Written.Fields.{elem_field}
use Rattle.wc_parse_code.specs.Standard.Productions.Tokens.{IsId, IsIndex}
use Rattle.wc_parse_code.specs.Standard.Productions.TypeUses.{AreTypes, param, IsParam, AreParams, AreResults}
use Rattle.wc_parse_code.specs.Standard.Productions.TypeUses.{signature, IsSignature, type_use, IsTypeUse}
use Rattle.wc_parse_code.specs.Standard.Productions.Plain.{IsPlain}
use Rattle.wc_parse_code.specs.Standard.Productions.Instructions.{Says}
use Rattle.wc_parse_field.specs.Standard.Productions.Parts.{AreElements, AreLocals, AreLimits, IsKind, IsOffset}
use Rattle.wc_parse_field.specs.Standard.Productions.Parts.{IsTarget}
use Rattle.wc_parse_field.specs.Standard.Productions.Fields.{IsFunction, IsTable, IsField, AreFields}
use Rattle.wc_parse.proofs.Examples.Rows.Lexed.Tokens.{Placed, placed, near, near_as, next, next_as}
use Rattle.wc_parse.proofs.Examples.Rows.Lexed.Reading.{Reads, reads}
use Rattle.wc_parse.proofs.Examples.Rows.Lexed.Words.{lp, rp, i32_word, func_word, type_word, table_word, export_word}
use Rattle.wc_parse.proofs.Examples.Rows.Lexed.Words.{elem_word, param_word, result_word, funcref_word, module_word}
use Rattle.wc_parse.proofs.Examples.Rows.Lexed.Words.{local_get_word, const_word, add_word, kept, is_natural, zero_word}
use Rattle.wc_parse.proofs.Examples.Rows.Lexed.Words.{zero_literal, one_word, one_literal}
use Rattle.wc_parse.proofs.Examples.Rows.Lexed.Strings.{inc_word, inc_is_name}
use Rattle.wc_parse.proofs.Examples.Rows.Lexed.Layout.{indented, deeper, commented}
use Rattle.wc_parse.proofs.Examples.Rows.Parts.Absent.{undeclared, plainly}
use Rattle.wc_parse.proofs.Examples.Rows.Lexed.Grammar.{skip, keep, absent, no_export, in_module, a_type, a_func}
use Rattle.wc_parse.proofs.Examples.Rows.Lexed.Grammar.{a_table, an_export, an_elem, short_offset, params, a_plain}
use Rattle.wc_parse.proofs.Examples.Rows.Lexed.Grammar.{folded_plain, simple_name, index_name, const_name}

-- `(module
--   (type (;0;) (func (param i32) (result i32)))
--   (func (;0;) (type 0) (param i32) (result i32)
--     local.get 0
--     i32.const 1
--     i32.add)
--   (table (;0;) 1 1 funcref)
--   (export "inc" (func 0))
--   (elem (;0;) (i32.const 0) func 0))`
abbrev module_with_comments_tokens : List Placed
module_with_comments_tokens =
    near lp ∷ near module_word ∷ placed indented None lp ∷ near_as role.Field type_word ∷ placed commented None lp
    ∷ near func_word ∷ next lp ∷ near param_word ∷ next_as role.ParamType i32_word ∷ near rp ∷ next lp
    ∷ near result_word ∷ next_as role.ResultType i32_word ∷ near rp ∷ near rp ∷ near_as role.FieldEnd rp
    ∷ placed indented None lp ∷ near_as role.Field func_word ∷ placed commented None lp ∷ near type_word
    ∷ next_as role.TypeIndex zero_word ∷ near rp ∷ next lp ∷ near param_word ∷ next_as role.ParamType i32_word ∷ near rp
    ∷ next lp ∷ near result_word ∷ next_as role.ResultType i32_word ∷ near rp
    ∷ placed deeper (Some role.Plain) local_get_word ∷ next_as role.Index zero_word
    ∷ placed deeper (Some role.Plain) const_word ∷ next_as role.Literal one_word
    ∷ placed deeper (Some role.Plain) add_word ∷ near_as role.FieldEnd rp ∷ placed indented None lp
    ∷ near_as role.Field table_word ∷ placed commented (Some role.LimitsMin) one_word ∷ next_as role.LimitsMax one_word
    ∷ next funcref_word ∷ near_as role.FieldEnd rp ∷ placed indented None lp ∷ near_as role.Field export_word
    ∷ next_as role.ExportName inc_word ∷ next lp ∷ near_as role.Description func_word ∷ next_as role.Target zero_word
    ∷ near rp ∷ near_as role.FieldEnd rp ∷ placed indented None lp ∷ near_as role.Field elem_word
    ∷ placed commented None lp ∷ near_as role.HeldPlain const_word ∷ next_as role.Literal zero_word
    ∷ near_as role.HeldEnd rp ∷ next func_word ∷ next_as role.Element zero_word ∷ near_as role.FieldEnd rp ∷ near rp
    ∷ []

module_with_comments : Reads
    (codes "(module\n  (type (;0;) (func (param i32) (result i32)))\n  (func (;0;) (type 0) (param i32)"
    ++ codes " (result i32)\n    local.get 0\n    i32.const 1\n    i32.add)\n  (table (;0;) 1 1 funcref)"
    ++ codes "\n  (export \"inc\" (func 0))\n  (elem (;0;) (i32.const 0) func 0))")
    (type_field None (signature (param None I32 ∷ []) (I32 ∷ []))
    ∷ func_field 17 undeclared (Function.code
    (type_use (Some (number 20 0)) (signature (param None I32 ∷ []) (I32 ∷ []))) []
    (Code.op (indexed LocalGet (number 31 0)) (Code.op (i32_const 1) (Code.op (simple I32Add) Code.empty))))
    ∷ table_field undeclared (Table.limits (record { min = 1; max = Some 1 }))
    ∷ export_field (codes "inc") export.Func (number 47 0)
    ∷ elem_field None (Code.op (i32_const 0) Code.empty) (number 57 0 ∷ []) ∷ [])
unfolding is_idchar
module_with_comments = reads module_with_comments_tokens refl (lit≤ tt)
    (in_module (then skip (then skip (then absent (then (more (a_type (then skip
    (then keep (then absent (then (then skip (then skip (then
    (more (params (then skip (then skip (then (more keep none) skip)))) none)
    (then (more (rule (then skip (then skip (then (more keep none) skip)))) none) skip)))) keep)))))
    (more (a_func (then skip (then keep (then no_export (then (right (then (rule
    (then (right (then skip (then skip (then (left keep) skip)))) (then
    (more (params (then skip (then skip (then (more keep none) skip)))) none)
    (more (rule (then skip (then skip (then (more keep none) skip)))) none))))
    (then none (more (a_plain (index_name (then keep (left keep))))
    (more (a_plain (const_name (then keep (left keep)))) (more (a_plain (simple_name keep)) none)))))) keep)))))
    (more
    (a_table (then skip (then keep (then no_export (then (right (left (then (then keep (right keep)) skip))) keep)))))
    (more
    (an_export (then skip (then keep (then keep (then skip (then (left keep) (then (left keep) (then skip keep))))))))
    (more (an_elem (then skip (then keep (then absent (then
    (short_offset (folded_plain (then skip (then (const_name (then keep (left keep))) (then none keep)))))
    (then (right skip) (then (more (left keep) none) keep))))))) none))))) skip)))))
    (AreFields.more (kept rp 15) (IsField.type_word refl IsId.absent (IsSignature.both
    (AreParams.more (IsParam.several (AreTypes.more refl AreTypes.none)) AreParams.none)
    (AreResults.more (AreTypes.more refl AreTypes.none) AreResults.none))) (AreFields.more (kept rp 35)
    (IsField.func_word refl plainly (IsFunction.code (IsTypeUse.indexed (IsIndex.u32 is_natural)
    (IsSignature.both (AreParams.more (IsParam.several (AreTypes.more refl AreTypes.none)) AreParams.none)
    (AreResults.more (AreTypes.more refl AreTypes.none) AreResults.none))) AreLocals.none
    (Says.more (Says.plain (IsPlain.index_name refl (IsIndex.u32 is_natural)))
    (Says.more (Says.plain (IsPlain.i32_const_name refl one_literal))
    (Says.more (Says.plain (IsPlain.simple_name refl)) Says.none))))) (AreFields.more (kept rp 41)
    (IsField.table_word refl plainly (IsTable.limits (AreLimits.both is_natural is_natural)))
    (AreFields.more (kept rp 49) (IsField.export_word refl inc_is_name (IsKind.func refl) (IsIndex.u32 is_natural))
    (AreFields.more (kept rp 58) (IsField.elem_word refl IsTarget.absent
    (IsOffset.short (Says.folded_plain (kept rp 55) (IsPlain.i32_const_name refl zero_literal) Says.no_folded))
    (AreElements.more (IsIndex.u32 is_natural) AreElements.none)) AreFields.none)))))
