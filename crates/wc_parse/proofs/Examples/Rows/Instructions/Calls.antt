-- Calls, direct and indirect.
use Rattle.std.proofs.Common.{ℕ, suc, List, [], ◌∷◌, ◌++◌, Some, None, refl, codes, lit≤}
use Rattle.wc_tokens.specs.Standard.Lexemes.{is_idchar}
use Rattle.wc_ops.specs.declared.op.IndexOp.TheVariants.{Call}
use Rattle.wc_ops.specs.declared.val_type.ValType.TheVariants.{I32}
use Rattle.wc_body.specs.Standard.Nested.{Code}
use Rattle.wc_syntax.specs.declared.role.Role.TheVariants as role
use Rattle.wc_syntax.specs.Standard.Phrases.{The, foldedinstr}
use Rattle.wc_syntax.specs.Standard.Deriving.{Derives, numbered, then, left, right, none, more, rule}
use Rattle.wc_surface.specs.Standard.Identifiers.{identifier}
use Rattle.wc_surface.specs.Standard.Written.Indices.{number, named}
use Rattle.wc_surface.specs.Standard.Written.Instructions.{indexed, call_indirect, i32_const}
use Rattle.wc_surface.specs.Standard.Written.Fields.{Function, Table, type_field, func_field, table_field}
use Rattle.wc_parse_code.specs.Standard.Productions.Tokens.{IsIdentifier, IsId, IsIndex}
use Rattle.wc_parse_code.specs.Standard.Productions.TypeUses.{AreTypes, param, IsParam, AreParams, AreResults}
use Rattle.wc_parse_code.specs.Standard.Productions.TypeUses.{signature, IsSignature, type_use, IsTypeUse}
use Rattle.wc_parse_code.specs.Standard.Productions.Plain.{IsPlain}
use Rattle.wc_parse_code.specs.Standard.Productions.Instructions.{Says}
use Rattle.wc_parse_field.specs.Standard.Productions.Parts.{AreLocals, AreLimits}
use Rattle.wc_parse_field.specs.Standard.Productions.Fields.{IsFunction, IsTable, IsField, AreFields}
use Rattle.wc_parse.proofs.Examples.Rows.Lexed.Tokens.{Placed, near, near_as, next, next_as, kinds_of, events_from}
use Rattle.wc_parse.proofs.Examples.Rows.Lexed.Reading.{Reads, reads}
use Rattle.wc_parse.proofs.Examples.Rows.Lexed.Words.{lp, rp, id_word, i32_word, func_word, type_word, table_word}
use Rattle.wc_parse.proofs.Examples.Rows.Lexed.Words.{param_word, result_word, funcref_word, call_word, const_word}
use Rattle.wc_parse.proofs.Examples.Rows.Lexed.Words.{call_indirect_word, kept, is_natural, zero_word, zero_literal}
use Rattle.wc_parse.proofs.Examples.Rows.Lexed.Words.{one_word, one_literal}
use Rattle.wc_parse.proofs.Examples.Rows.Parts.Absent.{undeclared, plainly, no_signature, no_type_use}
use Rattle.wc_parse.proofs.Examples.Rows.Lexed.Grammar.{skip, keep, absent, no_use, no_export, fields, a_type, a_func}
use Rattle.wc_parse.proofs.Examples.Rows.Lexed.Grammar.{a_table, named_param, params, a_plain, a_folded, folded_plain}
use Rattle.wc_parse.proofs.Examples.Rows.Lexed.Grammar.{index_name, call_indirect_name, const_name}

-- `(func call $f)`: that it names nothing is judged later
abbrev call_of_no_function_tokens : List Placed
call_of_no_function_tokens =
    near lp ∷ near_as role.Field func_word ∷ next_as role.Plain call_word ∷ next_as role.Index (id_word (codes "$f"))
    ∷ near_as role.FieldEnd rp ∷ []

call_of_no_function : Reads (codes "(func call $f)")
    (func_field 1 undeclared (Function.code (type_use None (signature [] [])) []
    (Code.op (indexed Call (named (identifier 3 (codes "$f")))) Code.empty)) ∷ [])
unfolding is_idchar
call_of_no_function = reads call_of_no_function_tokens refl (lit≤ tt)
    (fields (more (a_func (then skip (then keep (then no_export
    (then (right (then no_use (then none (more (a_plain (index_name (then keep (right keep)))) none)))) keep))))) none))
    (AreFields.more (kept rp 4) (IsField.func_word refl plainly (IsFunction.code no_type_use AreLocals.none
    (Says.more (Says.plain (IsPlain.index_name refl (IsIndex.id (IsIdentifier.bytes refl)))) Says.none)))
    AreFields.none)

-- `(type (func)) (func (type 0) call $f)`
abbrev call_in_a_typed_function_tokens : List Placed
call_in_a_typed_function_tokens =
    near lp ∷ near_as role.Field type_word ∷ next lp ∷ near func_word ∷ near rp ∷ near_as role.FieldEnd rp ∷ next lp
    ∷ near_as role.Field func_word ∷ next lp ∷ near type_word ∷ next_as role.TypeIndex zero_word ∷ near rp
    ∷ next_as role.Plain call_word ∷ next_as role.Index (id_word (codes "$f")) ∷ near_as role.FieldEnd rp ∷ []

call_in_a_typed_function : Reads (codes "(type (func)) (func (type 0) call $f)")
    (type_field None (signature [] [])
    ∷ func_field 7 undeclared (Function.code (type_use (Some (number 10 0)) (signature [] [])) []
    (Code.op (indexed Call (named (identifier 13 (codes "$f")))) Code.empty)) ∷ [])
unfolding is_idchar
call_in_a_typed_function = reads call_in_a_typed_function_tokens refl (lit≤ tt)
    (fields (more
    (a_type (then skip (then keep (then absent (then (then skip (then skip (then none (then none skip)))) keep)))))
    (more (a_func (then skip (then keep (then no_export (then (right (then
    (rule (then (right (then skip (then skip (then (left keep) skip)))) (then none none)))
    (then none (more (a_plain (index_name (then keep (right keep)))) none)))) keep))))) none)))
    (AreFields.more (kept rp 5) (IsField.type_word refl IsId.absent no_signature)
    (AreFields.more (kept rp 14) (IsField.func_word refl plainly (IsFunction.code
    (IsTypeUse.indexed (IsIndex.u32 is_natural) no_signature) AreLocals.none
    (Says.more (Says.plain (IsPlain.index_name refl (IsIndex.id (IsIdentifier.bytes refl)))) Says.none)))
    AreFields.none))

-- `(call_indirect (result i32) (i32.const 0))` from the token 17 on. It is derived on its own: within the calls around
-- it that took the prover minutes.
abbrev inner_call_tokens : List Placed
inner_call_tokens =
    next lp ∷ near_as role.HeldPlain call_indirect_word ∷ next lp ∷ near result_word ∷ next_as role.ResultType i32_word
    ∷ near rp ∷ next lp ∷ near_as role.HeldPlain const_word ∷ next_as role.Literal zero_word ∷ near_as role.HeldEnd rp
    ∷ near_as role.HeldEnd rp ∷ []

inner_call : {n : ℕ} → Derives (The (foldedinstr (suc (suc n)))) (numbered 17 (kinds_of inner_call_tokens))
    (events_from 17 inner_call_tokens)
inner_call =
    folded_plain (then skip (then (call_indirect_name (then keep
    (rule (then absent (then none (more (rule (then skip (then skip (then (more keep none) skip)))) none))))))
    (then (more (folded_plain (then skip (then (const_name (then keep (left keep))) (then none keep)))) none) keep)))

-- `(table 0 funcref) (func (call_indirect (param i32) (i32.const 1) (call_indirect (result i32) (i32.const 0))))`:
-- operands in front, in their order; each type use with the number of its word
abbrev call_in_a_call_tokens : List Placed
call_in_a_call_tokens =
    near lp ∷ near_as role.Field table_word ∷ next_as role.LimitsMin zero_word ∷ next funcref_word
    ∷ near_as role.FieldEnd rp ∷ next lp ∷ near_as role.Field func_word ∷ next lp
    ∷ near_as role.HeldPlain call_indirect_word ∷ next lp ∷ near param_word ∷ next_as role.ParamType i32_word ∷ near rp
    ∷ next lp ∷ near_as role.HeldPlain const_word ∷ next_as role.Literal one_word ∷ near_as role.HeldEnd rp ∷ next lp
    ∷ near_as role.HeldPlain call_indirect_word ∷ next lp ∷ near result_word ∷ next_as role.ResultType i32_word
    ∷ near rp ∷ next lp ∷ near_as role.HeldPlain const_word ∷ next_as role.Literal zero_word ∷ near_as role.HeldEnd rp
    ∷ near_as role.HeldEnd rp ∷ near_as role.HeldEnd rp ∷ near_as role.FieldEnd rp ∷ []

call_in_a_call : Reads
    (codes "(table 0 funcref) (func (call_indirect (param i32) (i32.const 1) (call_indirect (result i32)"
    ++ codes " (i32.const 0))))")
    (table_field undeclared (Table.limits (record { min = 0; max = None }))
    ∷ func_field 6 undeclared (Function.code (type_use None (signature [] [])) []
    (Code.op (i32_const 1) (Code.op (i32_const 0) (Code.op (call_indirect 18 (type_use None (signature [] (I32 ∷ []))))
    (Code.op (call_indirect 8 (type_use None (signature (param None I32 ∷ []) []))) Code.empty))))) ∷ [])
unfolding is_idchar
call_in_a_call = reads call_in_a_call_tokens refl (lit≤ tt)
    (fields (more
    (a_table (then skip (then keep (then no_export (then (right (left (then (then keep absent) skip))) keep)))))
    (more (a_func (then skip (then keep (then no_export (then (right (then no_use
    (then none (more (a_folded (folded_plain (then skip (then (call_indirect_name
    (then keep
    (rule (then absent (then (more (params (then skip (then skip (then (more keep none) skip)))) none) none)))))
    (then (more (folded_plain (then skip (then (const_name (then keep (left keep))) (then none keep))))
    (more inner_call none)) keep))))) none)))) keep))))) none)))
    (AreFields.more (kept rp 4) (IsField.table_word refl plainly (IsTable.limits (AreLimits.least is_natural)))
    (AreFields.more (kept rp 29) (IsField.func_word refl plainly (IsFunction.code no_type_use AreLocals.none
    (Says.more (Says.folded (Says.folded_plain (kept rp 28) (IsPlain.call_indirect_name refl
    (IsTypeUse.inline (IsSignature.both
    (AreParams.more (IsParam.several (AreTypes.more refl AreTypes.none)) AreParams.none) AreResults.none)))
    (Says.more_folded (Says.folded_plain (kept rp 16) (IsPlain.i32_const_name refl one_literal) Says.no_folded)
    (Says.more_folded (Says.folded_plain (kept rp 27) (IsPlain.call_indirect_name refl
    (IsTypeUse.inline
    (IsSignature.both AreParams.none (AreResults.more (AreTypes.more refl AreTypes.none) AreResults.none))))
    (Says.more_folded (Says.folded_plain (kept rp 26) (IsPlain.i32_const_name refl zero_literal) Says.no_folded)
    Says.no_folded)) Says.no_folded)))) Says.none))) AreFields.none))

-- `(func (call_indirect (param $x i32)))`: the identifier is kept, and refused later
abbrev named_parameter_of_a_call_tokens : List Placed
named_parameter_of_a_call_tokens =
    near lp ∷ near_as role.Field func_word ∷ next lp ∷ near_as role.HeldPlain call_indirect_word ∷ next lp
    ∷ near param_word ∷ next_as role.ParamId (id_word (codes "$x")) ∷ next_as role.ParamType i32_word ∷ near rp
    ∷ near_as role.HeldEnd rp ∷ near_as role.FieldEnd rp ∷ []

named_parameter_of_a_call : Reads (codes "(func (call_indirect (param $x i32)))")
    (func_field 1 undeclared (Function.code (type_use None (signature [] [])) []
    (Code.op (call_indirect 3 (type_use None (signature (param (Some (identifier 6 (codes "$x"))) I32 ∷ []) [])))
    Code.empty)) ∷ [])
unfolding is_idchar
named_parameter_of_a_call = reads named_parameter_of_a_call_tokens refl (lit≤ tt)
    (fields (more (a_func (then skip (then keep (then no_export (then (right
    (then no_use (then none (more (a_folded (folded_plain (then skip (then (call_indirect_name
    (then keep
    (rule (then absent (then (more (named_param (then skip (then skip (then keep (then keep skip))))) none) none)))))
    (then none keep))))) none)))) keep))))) none))
    (AreFields.more (kept rp 10) (IsField.func_word refl plainly (IsFunction.code no_type_use AreLocals.none
    (Says.more (Says.folded (Says.folded_plain (kept rp 9) (IsPlain.call_indirect_name refl
    (IsTypeUse.inline
    (IsSignature.both (AreParams.more (IsParam.one (IsIdentifier.bytes refl) refl) AreParams.none) AreResults.none)))
    Says.no_folded)) Says.none))) AreFields.none)
