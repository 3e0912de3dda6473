-- Blocks with a type, with a type use, and with neither.
use Rattle.std.proofs.Common.{List, [], ◌∷◌, Some, None, refl, codes, lit≤}
use Rattle.wc_tokens.specs.Standard.Lexemes.{is_idchar}
use Rattle.wc_ops.specs.declared.op.SimpleOp.TheVariants.{Drop}
use Rattle.wc_ops.specs.declared.val_type.ValType.TheVariants.{I32}
use Rattle.wc_body.specs.Standard.Nested.{block, Code}
use Rattle.wc_syntax.specs.declared.role.Role.TheVariants as role
use Rattle.wc_syntax.specs.Standard.Deriving.{then, left, right, none, more, rule}
use Rattle.wc_surface.specs.Standard.Identifiers.{identifier}
use Rattle.wc_surface.specs.Standard.Written.Indices.{number}
use Rattle.wc_surface.specs.Standard.Written.Instructions.{simple, short, use_of}
use Rattle.wc_surface.specs.Standard.Written.Fields.{Function, type_field, func_field}
use Rattle.wc_parse_code.specs.Standard.Productions.Tokens.{IsIdentifier, IsId, IsIndex}
use Rattle.wc_parse_code.specs.Standard.Productions.TypeUses.{AreTypes, param, IsParam, AreParams, AreResults}
use Rattle.wc_parse_code.specs.Standard.Productions.TypeUses.{signature, IsSignature, type_use, IsTypeUse, IsLong}
use Rattle.wc_parse_code.specs.Standard.Productions.TypeUses.{IsBlockType}
use Rattle.wc_parse_code.specs.Standard.Productions.Plain.{IsPlain}
use Rattle.wc_parse_code.specs.Standard.Productions.Instructions.{IsRegion, IsHead, head, Says}
use Rattle.wc_parse_field.specs.Standard.Productions.Parts.{AreLocals}
use Rattle.wc_parse_field.specs.Standard.Productions.Fields.{IsFunction, IsField, AreFields}
use Rattle.wc_parse.proofs.Examples.Rows.Lexed.Tokens.{Placed, near, near_as, next, next_as}
use Rattle.wc_parse.proofs.Examples.Rows.Lexed.Reading.{Reads, reads}
use Rattle.wc_parse.proofs.Examples.Rows.Lexed.Words.{lp, rp, id_word, i32_word, func_word, type_word, param_word}
use Rattle.wc_parse.proofs.Examples.Rows.Lexed.Words.{block_word, drop_word, kept, is_natural, zero_word}
use Rattle.wc_parse.proofs.Examples.Rows.Parts.Absent.{undeclared, plainly, no_signature, no_type_use, bare_head}
use Rattle.wc_parse.proofs.Examples.Rows.Lexed.Grammar.{skip, keep, absent, no_use, no_head, no_export, fields, a_type}
use Rattle.wc_parse.proofs.Examples.Rows.Lexed.Grammar.{a_func, named_param, params, a_folded, folded_plain}
use Rattle.wc_parse.proofs.Examples.Rows.Lexed.Grammar.{folded_region, simple_name}

-- `(func (block (param i32) (drop)))`
abbrev block_with_a_parameter_tokens : List Placed
block_with_a_parameter_tokens =
    near lp ∷ near_as role.Field func_word ∷ next lp ∷ near_as role.Begin block_word ∷ next lp ∷ near param_word
    ∷ next_as role.ParamType i32_word ∷ near rp ∷ next lp ∷ near_as role.HeldPlain drop_word ∷ near_as role.HeldEnd rp
    ∷ near_as role.End rp ∷ near_as role.FieldEnd rp ∷ []

block_with_a_parameter : Reads (codes "(func (block (param i32) (drop)))")
    (func_field 1 undeclared (Function.code (type_use None (signature [] [])) []
    (Code.region block
    (head (kept block_word 3) None (use_of (type_use None (signature (param None I32 ∷ []) []))) None None)
    (Code.op (simple Drop) Code.empty) Code.empty)) ∷ [])
unfolding is_idchar
block_with_a_parameter = reads block_with_a_parameter_tokens refl (lit≤ tt)
    (fields (more (a_func (then skip (then keep (then no_export (then (right
    (then no_use (then none (more (a_folded (folded_region (then skip (then keep
    (then (then absent
    (rule (then absent (then (more (params (then skip (then skip (then (more keep none) skip)))) none) none))))
    (then (more (a_folded (folded_plain (then skip (then (simple_name keep) (then none keep))))) none) keep))))))
    none)))) keep))))) none))
    (AreFields.more (kept rp 12) (IsField.func_word refl plainly (IsFunction.code no_type_use AreLocals.none
    (Says.more (Says.folded (Says.folded_region (kept rp 11) (IsRegion.block_word refl)
    (IsHead.both IsId.absent (IsBlockType.typed (IsTypeUse.inline (IsSignature.both
    (AreParams.more (IsParam.several (AreTypes.more refl AreTypes.none)) AreParams.none) AreResults.none))
    IsLong.by_param))
    (Says.more (Says.folded (Says.folded_plain (kept rp 10) (IsPlain.simple_name refl) Says.no_folded)) Says.none)))
    Says.none))) AreFields.none)

-- `(type (func)) (func (block (type 0)))`: the index makes it a type use, though the type is short
abbrev block_with_a_type_tokens : List Placed
block_with_a_type_tokens =
    near lp ∷ near_as role.Field type_word ∷ next lp ∷ near func_word ∷ near rp ∷ near_as role.FieldEnd rp ∷ next lp
    ∷ near_as role.Field func_word ∷ next lp ∷ near_as role.Begin block_word ∷ next lp ∷ near type_word
    ∷ next_as role.TypeIndex zero_word ∷ near rp ∷ near_as role.End rp ∷ near_as role.FieldEnd rp ∷ []

block_with_a_type : Reads (codes "(type (func)) (func (block (type 0)))")
    (type_field None (signature [] [])
    ∷ func_field 7 undeclared (Function.code (type_use None (signature [] [])) []
    (Code.region block
    (head (kept block_word 9) None (use_of (type_use (Some (number 12 0)) (signature [] []))) None None) Code.empty
    Code.empty)) ∷ [])
unfolding is_idchar
block_with_a_type = reads block_with_a_type_tokens refl (lit≤ tt)
    (fields (more
    (a_type (then skip (then keep (then absent (then (then skip (then skip (then none (then none skip)))) keep)))))
    (more (a_func (then skip (then keep (then no_export (then (right (then no_use
    (then none (more (a_folded (folded_region (then skip (then keep (then
    (then absent (rule (then (right (then skip (then skip (then (left keep) skip)))) (then none none))))
    (then none keep)))))) none)))) keep))))) none)))
    (AreFields.more (kept rp 5) (IsField.type_word refl IsId.absent no_signature)
    (AreFields.more (kept rp 15) (IsField.func_word refl plainly (IsFunction.code no_type_use AreLocals.none
    (Says.more (Says.folded (Says.folded_region (kept rp 14) (IsRegion.block_word refl)
    (IsHead.both IsId.absent
    (IsBlockType.typed (IsTypeUse.indexed (IsIndex.u32 is_natural) no_signature) IsLong.by_index)) Says.none))
    Says.none))) AreFields.none))

-- `(func (block))`: the short form, and no type use
abbrev block_alone_tokens : List Placed
block_alone_tokens =
    near lp ∷ near_as role.Field func_word ∷ next lp ∷ near_as role.Begin block_word ∷ near_as role.End rp
    ∷ near_as role.FieldEnd rp ∷ []

block_alone : Reads (codes "(func (block))")
    (func_field 1 undeclared (Function.code (type_use None (signature [] [])) []
    (Code.region block (head (kept block_word 3) None (short None) None None) Code.empty Code.empty)) ∷ [])
unfolding is_idchar
block_alone = reads block_alone_tokens refl (lit≤ tt)
    (fields (more (a_func (then skip (then keep (then no_export (then (right
    (then no_use
    (then none (more (a_folded (folded_region (then skip (then keep (then no_head (then none keep)))))) none))))
    keep))))) none))
    (AreFields.more (kept rp 5) (IsField.func_word refl plainly (IsFunction.code no_type_use AreLocals.none
    (Says.more (Says.folded (Says.folded_region (kept rp 4) (IsRegion.block_word refl) bare_head Says.none))
    Says.none))) AreFields.none)

-- `(func (block (param $x i32)))`: the identifier is kept, and refused later
abbrev block_with_a_named_parameter_tokens : List Placed
block_with_a_named_parameter_tokens =
    near lp ∷ near_as role.Field func_word ∷ next lp ∷ near_as role.Begin block_word ∷ next lp ∷ near param_word
    ∷ next_as role.ParamId (id_word (codes "$x")) ∷ next_as role.ParamType i32_word ∷ near rp ∷ near_as role.End rp
    ∷ near_as role.FieldEnd rp ∷ []

block_with_a_named_parameter : Reads (codes "(func (block (param $x i32)))")
    (func_field 1 undeclared (Function.code (type_use None (signature [] [])) []
    (Code.region block (head (kept block_word 3) None
    (use_of (type_use None (signature (param (Some (identifier 6 (codes "$x"))) I32 ∷ []) []))) None None) Code.empty
    Code.empty)) ∷ [])
unfolding is_idchar
block_with_a_named_parameter = reads block_with_a_named_parameter_tokens refl (lit≤ tt)
    (fields (more (a_func (then skip (then keep (then no_export (then (right
    (then no_use (then none (more (a_folded (folded_region (then skip (then keep
    (then (then absent
    (rule (then absent (then (more (named_param (then skip (then skip (then keep (then keep skip))))) none) none))))
    (then none keep)))))) none)))) keep))))) none))
    (AreFields.more (kept rp 10) (IsField.func_word refl plainly (IsFunction.code no_type_use AreLocals.none
    (Says.more (Says.folded (Says.folded_region (kept rp 9) (IsRegion.block_word refl)
    (IsHead.both IsId.absent (IsBlockType.typed (IsTypeUse.inline
    (IsSignature.both (AreParams.more (IsParam.one (IsIdentifier.bytes refl) refl) AreParams.none) AreResults.none))
    IsLong.by_param)) Says.none)) Says.none))) AreFields.none)
