-- Exports, and the start.
use Rattle.std.proofs.Common.{List, [], ◌∷◌, Some, None, refl, codes, lit≤}
use Rattle.wc_tokens.specs.Standard.Lexemes.{is_idchar}
use Rattle.wc_ops.specs.declared.val_type.ValType.TheVariants.{I32}
use Rattle.wc_ast.specs.declared.export.ExportKind.TheVariants as export
use Rattle.wc_body.specs.Standard.Nested.{Code}
use Rattle.wc_syntax.specs.declared.role.Role.TheVariants as role
use Rattle.wc_syntax.specs.Standard.Deriving.{then, left, right, none, more, rule}
use Rattle.wc_surface.specs.Standard.Identifiers.{identifier}
use Rattle.wc_surface.specs.Standard.Written.Indices.{number, named}
use Rattle.wc_surface.specs.Standard.Written.Fields.{Function, Memory, func_field, memory_field, export_field}
use Rattle.wc_surface.specs.Standard.Written.Fields.{start_field}
use Rattle.wc_parse_code.specs.Standard.Productions.Tokens.{IsIdentifier, IsId, IsIndex}
use Rattle.wc_parse_code.specs.Standard.Productions.TypeUses.{AreTypes, param, IsParam, AreParams, AreResults}
use Rattle.wc_parse_code.specs.Standard.Productions.TypeUses.{signature, IsSignature, type_use, IsTypeUse}
use Rattle.wc_parse_code.specs.Standard.Productions.Instructions.{Says}
use Rattle.wc_parse_field.specs.Standard.Productions.Parts.{AreExports, IsDeclared, AreLocals, AreLimits, IsKind}
use Rattle.wc_parse_field.specs.Standard.Productions.Fields.{IsFunction, IsMemory, IsField, AreFields}
use Rattle.wc_parse.proofs.Examples.Rows.Lexed.Tokens.{Placed, near, near_as, next, next_as}
use Rattle.wc_parse.proofs.Examples.Rows.Lexed.Reading.{Reads, reads}
use Rattle.wc_parse.proofs.Examples.Rows.Lexed.Words.{lp, rp, id_word, i32_word, func_word, memory_word, export_word}
use Rattle.wc_parse.proofs.Examples.Rows.Lexed.Words.{start_word, param_word, kept, is_natural, zero_word, one_word}
use Rattle.wc_parse.proofs.Examples.Rows.Lexed.Strings.{a_word, a_is_name}
use Rattle.wc_parse.proofs.Examples.Rows.Parts.Absent.{no_type_use}
use Rattle.wc_parse.proofs.Examples.Rows.Lexed.Grammar.{skip, keep, absent, no_use, fields, a_func, a_memory, an_export}
use Rattle.wc_parse.proofs.Examples.Rows.Lexed.Grammar.{a_start, params}

-- `(func (export "a")) (memory (export "a") 1)`: that the names are equal is judged later
abbrev one_name_twice_tokens : List Placed
one_name_twice_tokens =
    near lp ∷ near_as role.Field func_word ∷ next lp ∷ near export_word ∷ next_as role.ExportName a_word ∷ near rp
    ∷ near_as role.FieldEnd rp ∷ next lp ∷ near_as role.Field memory_word ∷ next lp ∷ near export_word
    ∷ next_as role.ExportName a_word ∷ near rp ∷ next_as role.LimitsMin one_word ∷ near_as role.FieldEnd rp ∷ []

one_name_twice : Reads (codes "(func (export \"a\")) (memory (export \"a\") 1)")
    (func_field 1 (record { id = None; exports = codes "a" ∷ [] })
    (Function.code (type_use None (signature [] [])) [] Code.empty)
    ∷ memory_field (record { id = None; exports = codes "a" ∷ [] }) (Memory.limits (record { min = 1; max = None }))
    ∷ [])
unfolding is_idchar
one_name_twice = reads one_name_twice_tokens refl (lit≤ tt)
    (fields (more (a_func (then skip (then keep (then
    (then absent (more (rule (then skip (then skip (then keep skip)))) none))
    (then (right (then no_use (then none none))) keep))))) (more (a_memory (then skip
    (then keep (then (then absent (more (rule (then skip (then skip (then keep skip)))) none))
    (then (right (left (then keep absent))) keep))))) none)))
    (AreFields.more (kept rp 6) (IsField.func_word refl
    (IsDeclared.both IsId.absent (AreExports.more a_is_name AreExports.none))
    (IsFunction.code no_type_use AreLocals.none Says.none)) (AreFields.more (kept rp 14)
    (IsField.memory_word refl (IsDeclared.both IsId.absent (AreExports.more a_is_name AreExports.none))
    (IsMemory.limits (AreLimits.least is_natural))) AreFields.none))

-- `(export "a" (func 0))`
abbrev export_of_no_function_tokens : List Placed
export_of_no_function_tokens =
    near lp ∷ near_as role.Field export_word ∷ next_as role.ExportName a_word ∷ next lp
    ∷ near_as role.Description func_word ∷ next_as role.Target zero_word ∷ near rp ∷ near_as role.FieldEnd rp ∷ []

export_of_no_function : Reads (codes "(export \"a\" (func 0))")
    (export_field (codes "a") export.Func (number 5 0) ∷ [])
unfolding is_idchar
export_of_no_function = reads export_of_no_function_tokens refl (lit≤ tt)
    (fields (more
    (an_export (then skip (then keep (then keep (then skip (then (left keep) (then (left keep) (then skip keep))))))))
    none))
    (AreFields.more (kept rp 7) (IsField.export_word refl a_is_name (IsKind.func refl) (IsIndex.u32 is_natural))
    AreFields.none)

-- `(func $s (param i32)) (start $s)`: its type is judged later
abbrev start_with_a_parameter_tokens : List Placed
start_with_a_parameter_tokens =
    near lp ∷ near_as role.Field func_word ∷ next_as role.FieldId (id_word (codes "$s")) ∷ next lp ∷ near param_word
    ∷ next_as role.ParamType i32_word ∷ near rp ∷ near_as role.FieldEnd rp ∷ next lp ∷ near_as role.Field start_word
    ∷ next_as role.Target (id_word (codes "$s")) ∷ near_as role.FieldEnd rp ∷ []

start_with_a_parameter : Reads (codes "(func $s (param i32)) (start $s)")
    (func_field 1 (record { id = Some (identifier 2 (codes "$s")); exports = [] })
    (Function.code (type_use None (signature (param None I32 ∷ []) [])) [] Code.empty)
    ∷ start_field 9 (named (identifier 10 (codes "$s"))) ∷ [])
unfolding is_idchar
start_with_a_parameter = reads start_with_a_parameter_tokens refl (lit≤ tt)
    (fields (more (a_func (then skip (then keep (then (then (right keep) none)
    (then (right (then
    (rule (then absent (then (more (params (then skip (then skip (then (more keep none) skip)))) none) none)))
    (then none none))) keep))))) (more (a_start (then skip (then keep (then (right keep) keep)))) none)))
    (AreFields.more (kept rp 7) (IsField.func_word refl
    (IsDeclared.both (IsId.there (IsIdentifier.bytes refl)) AreExports.none)
    (IsFunction.code (IsTypeUse.inline (IsSignature.both
    (AreParams.more (IsParam.several (AreTypes.more refl AreTypes.none)) AreParams.none) AreResults.none))
    AreLocals.none Says.none))
    (AreFields.more (kept rp 11) (IsField.start_word refl (IsIndex.id (IsIdentifier.bytes refl))) AreFields.none))
