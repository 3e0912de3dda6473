-- Types and type uses.
use Rattle.std.proofs.Common.{List, [], ◌∷◌, Some, None, refl, codes, lit≤}
use Rattle.wc_tokens.specs.Standard.Lexemes.{is_idchar}
use Rattle.wc_ops.specs.declared.val_type.ValType.TheVariants.{I32, I64}
use Rattle.wc_body.specs.Standard.Nested.{Code}
use Rattle.wc_syntax.specs.declared.role.Role.TheVariants as role
use Rattle.wc_syntax.specs.Standard.Deriving.{then, left, right, none, more, rule}
use Rattle.wc_surface.specs.Standard.Identifiers.{identifier}
use Rattle.wc_surface.specs.Standard.Written.Indices.{number}
use Rattle.wc_surface.specs.Standard.Written.Fields.{Function, type_field, func_field}
use Rattle.wc_parse_code.specs.Standard.Productions.Tokens.{IsIdentifier, IsId, IsIndex}
use Rattle.wc_parse_code.specs.Standard.Productions.TypeUses.{AreTypes, param, IsParam, AreParams, AreResults}
use Rattle.wc_parse_code.specs.Standard.Productions.TypeUses.{signature, IsSignature, type_use, IsTypeUse}
use Rattle.wc_parse_code.specs.Standard.Productions.Instructions.{Says}
use Rattle.wc_parse_field.specs.Standard.Productions.Parts.{IsLocal, AreLocals}
use Rattle.wc_parse_field.specs.Standard.Productions.Fields.{IsFunction, IsField, AreFields}
use Rattle.wc_parse.proofs.Examples.Rows.Lexed.Tokens.{Placed, near, near_as, next, next_as}
use Rattle.wc_parse.proofs.Examples.Rows.Lexed.Reading.{Reads, reads}
use Rattle.wc_parse.proofs.Examples.Rows.Lexed.Words.{lp, rp, id_word, i32_word, i64_word, func_word, type_word}
use Rattle.wc_parse.proofs.Examples.Rows.Lexed.Words.{local_word, param_word, result_word, kept, is_natural, zero_word}
use Rattle.wc_parse.proofs.Examples.Rows.Parts.Absent.{undeclared, plainly, no_signature}
use Rattle.wc_parse.proofs.Examples.Rows.Lexed.Grammar.{skip, keep, absent, no_export, fields, a_type, a_func}
use Rattle.wc_parse.proofs.Examples.Rows.Lexed.Grammar.{named_param, params, named_local}

-- `(func (type 0)) (func (param i32))`: that the type is one of a use behind it is no matter here
abbrev type_of_a_later_use_tokens : List Placed
type_of_a_later_use_tokens =
    near lp ∷ near_as role.Field func_word ∷ next lp ∷ near type_word ∷ next_as role.TypeIndex zero_word ∷ near rp
    ∷ near_as role.FieldEnd rp ∷ next lp ∷ near_as role.Field func_word ∷ next lp ∷ near param_word
    ∷ next_as role.ParamType i32_word ∷ near rp ∷ near_as role.FieldEnd rp ∷ []

type_of_a_later_use : Reads (codes "(func (type 0)) (func (param i32))")
    (func_field 1 undeclared (Function.code (type_use (Some (number 4 0)) (signature [] [])) [] Code.empty)
    ∷ func_field 8 undeclared (Function.code (type_use None (signature (param None I32 ∷ []) [])) [] Code.empty) ∷ [])
unfolding is_idchar
type_of_a_later_use = reads type_of_a_later_use_tokens refl (lit≤ tt)
    (fields (more (a_func (then skip (then keep (then no_export (then (right
    (then (rule (then (right (then skip (then skip (then (left keep) skip)))) (then none none))) (then none none)))
    keep))))) (more (a_func (then skip (then keep (then no_export (then (right
    (then (rule (then absent (then (more (params (then skip (then skip (then (more keep none) skip)))) none) none)))
    (then none none))) keep))))) none)))
    (AreFields.more (kept rp 6) (IsField.func_word refl plainly
    (IsFunction.code (IsTypeUse.indexed (IsIndex.u32 is_natural) no_signature) AreLocals.none Says.none))
    (AreFields.more (kept rp 13) (IsField.func_word refl plainly (IsFunction.code
    (IsTypeUse.inline (IsSignature.both
    (AreParams.more (IsParam.several (AreTypes.more refl AreTypes.none)) AreParams.none) AreResults.none))
    AreLocals.none Says.none)) AreFields.none))

-- `(func (type 0))`: that there is no such type is judged later
abbrev type_of_none_tokens : List Placed
type_of_none_tokens =
    near lp ∷ near_as role.Field func_word ∷ next lp ∷ near type_word ∷ next_as role.TypeIndex zero_word ∷ near rp
    ∷ near_as role.FieldEnd rp ∷ []

type_of_none : Reads (codes "(func (type 0))")
    (func_field 1 undeclared (Function.code (type_use (Some (number 4 0)) (signature [] [])) [] Code.empty) ∷ [])
unfolding is_idchar
type_of_none = reads type_of_none_tokens refl (lit≤ tt)
    (fields (more (a_func (then skip (then keep (then no_export (then (right
    (then (rule (then (right (then skip (then skip (then (left keep) skip)))) (then none none))) (then none none)))
    keep))))) none))
    (AreFields.more (kept rp 6) (IsField.func_word refl plainly
    (IsFunction.code (IsTypeUse.indexed (IsIndex.u32 is_natural) no_signature) AreLocals.none Says.none))
    AreFields.none)

-- `(type (func)) (func (type 0) (param i32))`: both are kept, and compared later
abbrev another_type_than_the_one_named_tokens : List Placed
another_type_than_the_one_named_tokens =
    near lp ∷ near_as role.Field type_word ∷ next lp ∷ near func_word ∷ near rp ∷ near_as role.FieldEnd rp ∷ next lp
    ∷ near_as role.Field func_word ∷ next lp ∷ near type_word ∷ next_as role.TypeIndex zero_word ∷ near rp ∷ next lp
    ∷ near param_word ∷ next_as role.ParamType i32_word ∷ near rp ∷ near_as role.FieldEnd rp ∷ []

another_type_than_the_one_named : Reads (codes "(type (func)) (func (type 0) (param i32))")
    (type_field None (signature [] [])
    ∷ func_field 7 undeclared
    (Function.code (type_use (Some (number 10 0)) (signature (param None I32 ∷ []) [])) [] Code.empty) ∷ [])
unfolding is_idchar
another_type_than_the_one_named = reads another_type_than_the_one_named_tokens refl (lit≤ tt)
    (fields (more
    (a_type (then skip (then keep (then absent (then (then skip (then skip (then none (then none skip)))) keep)))))
    (more (a_func (then skip (then keep (then no_export (then (right (then (rule
    (then (right (then skip (then skip (then (left keep) skip))))
    (then (more (params (then skip (then skip (then (more keep none) skip)))) none) none))) (then none none))) keep)))))
    none)))
    (AreFields.more (kept rp 5) (IsField.type_word refl IsId.absent no_signature)
    (AreFields.more (kept rp 16) (IsField.func_word refl plainly (IsFunction.code
    (IsTypeUse.indexed (IsIndex.u32 is_natural) (IsSignature.both
    (AreParams.more (IsParam.several (AreTypes.more refl AreTypes.none)) AreParams.none) AreResults.none))
    AreLocals.none Says.none)) AreFields.none))

-- `(func (param $x i32) (local $x i64))`: that it stands twice is judged later
abbrev one_identifier_twice_tokens : List Placed
one_identifier_twice_tokens =
    near lp ∷ near_as role.Field func_word ∷ next lp ∷ near param_word ∷ next_as role.ParamId (id_word (codes "$x"))
    ∷ next_as role.ParamType i32_word ∷ near rp ∷ next lp ∷ near local_word
    ∷ next_as role.LocalId (id_word (codes "$x")) ∷ next_as role.LocalType i64_word ∷ near rp ∷ near_as role.FieldEnd rp
    ∷ []

one_identifier_twice : Reads (codes "(func (param $x i32) (local $x i64))")
    (func_field 1 undeclared (Function.code
    (type_use None (signature (param (Some (identifier 4 (codes "$x"))) I32 ∷ []) []))
    (record { id = Some (identifier 9 (codes "$x")); ty = I64; token = 10 } ∷ []) Code.empty) ∷ [])
unfolding is_idchar
one_identifier_twice = reads one_identifier_twice_tokens refl (lit≤ tt)
    (fields (more (a_func (then skip (then keep (then no_export (then (right
    (then
    (rule (then absent (then (more (named_param (then skip (then skip (then keep (then keep skip))))) none) none)))
    (then (more (named_local (then skip (then skip (then keep (then keep skip))))) none) none))) keep))))) none))
    (AreFields.more (kept rp 12) (IsField.func_word refl plainly (IsFunction.code
    (IsTypeUse.inline
    (IsSignature.both (AreParams.more (IsParam.one (IsIdentifier.bytes refl) refl) AreParams.none) AreResults.none))
    (AreLocals.more (IsLocal.one (IsIdentifier.bytes refl) refl) AreLocals.none) Says.none)) AreFields.none)

-- `(type (func (result i32 i64)))`
abbrev two_results_tokens : List Placed
two_results_tokens =
    near lp ∷ near_as role.Field type_word ∷ next lp ∷ near func_word ∷ next lp ∷ near result_word
    ∷ next_as role.ResultType i32_word ∷ next_as role.ResultType i64_word ∷ near rp ∷ near rp ∷ near_as role.FieldEnd rp
    ∷ []

two_results : Reads (codes "(type (func (result i32 i64)))")
    (type_field None (signature [] (I32 ∷ I64 ∷ [])) ∷ [])
unfolding is_idchar
two_results = reads two_results_tokens refl (lit≤ tt)
    (fields (more (a_type (then skip (then keep (then absent (then (then skip
    (then skip
    (then none (then (more (rule (then skip (then skip (then (more keep (more keep none)) skip)))) none) skip))))
    keep))))) none))
    (AreFields.more (kept rp 10) (IsField.type_word refl IsId.absent (IsSignature.both AreParams.none
    (AreResults.more (AreTypes.more refl (AreTypes.more refl AreTypes.none)) AreResults.none))) AreFields.none)
