-- Blocks, and the identifiers of their labels.
use Rattle.std.proofs.Common.{List, [], ◌∷◌, Some, None, refl, codes, lit≤}
use Rattle.wc_tokens.specs.Standard.Lexemes.{is_idchar}
use Rattle.wc_ops.specs.declared.op.IndexOp.TheVariants.{Br}
use Rattle.wc_body.specs.Standard.Nested.{block, Code}
use Rattle.wc_syntax.specs.declared.role.Role.TheVariants as role
use Rattle.wc_syntax.specs.Standard.Deriving.{then, left, right, none, more, rule}
use Rattle.wc_surface.specs.Standard.Identifiers.{identifier}
use Rattle.wc_surface.specs.Standard.Written.Indices.{number, named}
use Rattle.wc_surface.specs.Standard.Written.Instructions.{indexed, short}
use Rattle.wc_surface.specs.Standard.Written.Fields.{Function, type_field, func_field}
use Rattle.wc_parse_code.specs.Standard.Productions.Tokens.{IsIdentifier, IsId, IsIndex}
use Rattle.wc_parse_code.specs.Standard.Productions.TypeUses.{signature, type_use, IsTypeUse, IsBlockType}
use Rattle.wc_parse_code.specs.Standard.Productions.Plain.{IsPlain}
use Rattle.wc_parse_code.specs.Standard.Productions.Instructions.{IsRegion, IsHead, head, Says}
use Rattle.wc_parse_field.specs.Standard.Productions.Parts.{AreLocals}
use Rattle.wc_parse_field.specs.Standard.Productions.Fields.{IsFunction, IsField, AreFields}
use Rattle.wc_parse.proofs.Examples.Rows.Lexed.Tokens.{Placed, near, near_as, next, next_as}
use Rattle.wc_parse.proofs.Examples.Rows.Lexed.Reading.{Reads, reads}
use Rattle.wc_parse.proofs.Examples.Rows.Lexed.Words.{lp, rp, id_word, func_word, type_word, then_word, end_word}
use Rattle.wc_parse.proofs.Examples.Rows.Lexed.Words.{block_word, if_word, br_word, kept, is_natural, zero_word}
use Rattle.wc_parse.proofs.Examples.Rows.Lexed.Words.{two_word}
use Rattle.wc_parse.proofs.Examples.Rows.Parts.Absent.{undeclared, plainly, no_signature, no_type_use, bare_head}
use Rattle.wc_parse.proofs.Examples.Rows.Lexed.Grammar.{skip, keep, absent, no_use, no_head, no_export, fields, a_type}
use Rattle.wc_parse.proofs.Examples.Rows.Lexed.Grammar.{a_func, a_plain, a_folded, a_region, folded_plain}
use Rattle.wc_parse.proofs.Examples.Rows.Lexed.Grammar.{folded_region, folded_if, index_name}

-- `(func block $a block $a br $a end $a end $b)`: what stands behind `end` is kept, and compared later
abbrev label_that_differs_tokens : List Placed
label_that_differs_tokens =
    near lp ∷ near_as role.Field func_word ∷ next_as role.Begin block_word ∷ next_as role.Label (id_word (codes "$a"))
    ∷ next_as role.Begin block_word ∷ next_as role.Label (id_word (codes "$a")) ∷ next_as role.Plain br_word
    ∷ next_as role.Index (id_word (codes "$a")) ∷ next_as role.End end_word
    ∷ next_as role.EndLabel (id_word (codes "$a")) ∷ next_as role.End end_word
    ∷ next_as role.EndLabel (id_word (codes "$b")) ∷ near_as role.FieldEnd rp ∷ []

label_that_differs : Reads (codes "(func block $a block $a br $a end $a end $b)")
    (func_field 1 undeclared (Function.code (type_use None (signature [] [])) []
    (Code.region block
    (head (kept block_word 2) (Some (identifier 3 (codes "$a"))) (short None) None (Some (identifier 11 (codes "$b"))))
    (Code.region block
    (head (kept block_word 4) (Some (identifier 5 (codes "$a"))) (short None) None (Some (identifier 9 (codes "$a"))))
    (Code.op (indexed Br (named (identifier 7 (codes "$a")))) Code.empty) Code.empty) Code.empty)) ∷ [])
unfolding is_idchar
label_that_differs = reads label_that_differs_tokens refl (lit≤ tt)
    (fields (more (a_func (then skip (then keep (then no_export (then (right
    (then no_use (then none (more (a_region (then keep (then (then (right keep) no_use)
    (then (more (a_region (then keep (then (then (right keep) no_use)
    (then (more (a_plain (index_name (then keep (right keep)))) none) (then keep (right keep)))))) none)
    (then keep (right keep)))))) none)))) keep))))) none))
    (AreFields.more (kept rp 12) (IsField.func_word refl plainly (IsFunction.code no_type_use AreLocals.none
    (Says.more (Says.region (kept end_word 10) (IsRegion.block_word refl)
    (IsHead.both (IsId.there (IsIdentifier.bytes refl)) (IsBlockType.no_type no_type_use))
    (Says.more (Says.region (kept end_word 8) (IsRegion.block_word refl)
    (IsHead.both (IsId.there (IsIdentifier.bytes refl)) (IsBlockType.no_type no_type_use))
    (Says.more (Says.plain (IsPlain.index_name refl (IsIndex.id (IsIdentifier.bytes refl)))) Says.none)
    (IsId.there (IsIdentifier.bytes refl))) Says.none) (IsId.there (IsIdentifier.bytes refl))) Says.none)))
    AreFields.none)

-- `(func block $a block $a br $a end $a end $a)`
abbrev label_in_a_label_tokens : List Placed
label_in_a_label_tokens =
    near lp ∷ near_as role.Field func_word ∷ next_as role.Begin block_word ∷ next_as role.Label (id_word (codes "$a"))
    ∷ next_as role.Begin block_word ∷ next_as role.Label (id_word (codes "$a")) ∷ next_as role.Plain br_word
    ∷ next_as role.Index (id_word (codes "$a")) ∷ next_as role.End end_word
    ∷ next_as role.EndLabel (id_word (codes "$a")) ∷ next_as role.End end_word
    ∷ next_as role.EndLabel (id_word (codes "$a")) ∷ near_as role.FieldEnd rp ∷ []

label_in_a_label : Reads (codes "(func block $a block $a br $a end $a end $a)")
    (func_field 1 undeclared (Function.code (type_use None (signature [] [])) []
    (Code.region block
    (head (kept block_word 2) (Some (identifier 3 (codes "$a"))) (short None) None (Some (identifier 11 (codes "$a"))))
    (Code.region block
    (head (kept block_word 4) (Some (identifier 5 (codes "$a"))) (short None) None (Some (identifier 9 (codes "$a"))))
    (Code.op (indexed Br (named (identifier 7 (codes "$a")))) Code.empty) Code.empty) Code.empty)) ∷ [])
unfolding is_idchar
label_in_a_label = reads label_in_a_label_tokens refl (lit≤ tt)
    (fields (more (a_func (then skip (then keep (then no_export (then (right
    (then no_use (then none (more (a_region (then keep (then (then (right keep) no_use)
    (then (more (a_region (then keep (then (then (right keep) no_use)
    (then (more (a_plain (index_name (then keep (right keep)))) none) (then keep (right keep)))))) none)
    (then keep (right keep)))))) none)))) keep))))) none))
    (AreFields.more (kept rp 12) (IsField.func_word refl plainly (IsFunction.code no_type_use AreLocals.none
    (Says.more (Says.region (kept end_word 10) (IsRegion.block_word refl)
    (IsHead.both (IsId.there (IsIdentifier.bytes refl)) (IsBlockType.no_type no_type_use))
    (Says.more (Says.region (kept end_word 8) (IsRegion.block_word refl)
    (IsHead.both (IsId.there (IsIdentifier.bytes refl)) (IsBlockType.no_type no_type_use))
    (Says.more (Says.plain (IsPlain.index_name refl (IsIndex.id (IsIdentifier.bytes refl)))) Says.none)
    (IsId.there (IsIdentifier.bytes refl))) Says.none) (IsId.there (IsIdentifier.bytes refl))) Says.none)))
    AreFields.none)

-- `(type (func)) (func (type 0) block $a block $a br $a end $a end $a)`
abbrev label_in_a_typed_function_tokens : List Placed
label_in_a_typed_function_tokens =
    near lp ∷ near_as role.Field type_word ∷ next lp ∷ near func_word ∷ near rp ∷ near_as role.FieldEnd rp ∷ next lp
    ∷ near_as role.Field func_word ∷ next lp ∷ near type_word ∷ next_as role.TypeIndex zero_word ∷ near rp
    ∷ next_as role.Begin block_word ∷ next_as role.Label (id_word (codes "$a")) ∷ next_as role.Begin block_word
    ∷ next_as role.Label (id_word (codes "$a")) ∷ next_as role.Plain br_word ∷ next_as role.Index (id_word (codes "$a"))
    ∷ next_as role.End end_word ∷ next_as role.EndLabel (id_word (codes "$a")) ∷ next_as role.End end_word
    ∷ next_as role.EndLabel (id_word (codes "$a")) ∷ near_as role.FieldEnd rp ∷ []

label_in_a_typed_function : Reads (codes "(type (func)) (func (type 0) block $a block $a br $a end $a end $a)")
    (type_field None (signature [] [])
    ∷ func_field 7 undeclared (Function.code (type_use (Some (number 10 0)) (signature [] [])) []
    (Code.region block (head (kept block_word 12) (Some (identifier 13 (codes "$a"))) (short None) None
    (Some (identifier 21 (codes "$a")))) (Code.region block (head (kept block_word 14)
    (Some (identifier 15 (codes "$a"))) (short None) None (Some (identifier 19 (codes "$a"))))
    (Code.op (indexed Br (named (identifier 17 (codes "$a")))) Code.empty) Code.empty) Code.empty)) ∷ [])
unfolding is_idchar
label_in_a_typed_function = reads label_in_a_typed_function_tokens refl (lit≤ tt)
    (fields (more
    (a_type (then skip (then keep (then absent (then (then skip (then skip (then none (then none skip)))) keep)))))
    (more (a_func (then skip (then keep (then no_export (then (right (then
    (rule (then (right (then skip (then skip (then (left keep) skip)))) (then none none)))
    (then none (more (a_region (then keep (then (then (right keep) no_use) (then
    (more (a_region (then keep (then (then (right keep) no_use)
    (then (more (a_plain (index_name (then keep (right keep)))) none) (then keep (right keep)))))) none)
    (then keep (right keep)))))) none)))) keep))))) none)))
    (AreFields.more (kept rp 5) (IsField.type_word refl IsId.absent no_signature)
    (AreFields.more (kept rp 22) (IsField.func_word refl plainly (IsFunction.code
    (IsTypeUse.indexed (IsIndex.u32 is_natural) no_signature) AreLocals.none
    (Says.more (Says.region (kept end_word 20) (IsRegion.block_word refl)
    (IsHead.both (IsId.there (IsIdentifier.bytes refl)) (IsBlockType.no_type no_type_use))
    (Says.more (Says.region (kept end_word 18) (IsRegion.block_word refl)
    (IsHead.both (IsId.there (IsIdentifier.bytes refl)) (IsBlockType.no_type no_type_use))
    (Says.more (Says.plain (IsPlain.index_name refl (IsIndex.id (IsIdentifier.bytes refl)))) Says.none)
    (IsId.there (IsIdentifier.bytes refl))) Says.none) (IsId.there (IsIdentifier.bytes refl))) Says.none)))
    AreFields.none))

-- `(func (block $a (if (br $a) (then))))`: the condition stands in front of the if, and outside of its label
abbrev label_of_a_condition_tokens : List Placed
label_of_a_condition_tokens =
    near lp ∷ near_as role.Field func_word ∷ next lp ∷ near_as role.Begin block_word
    ∷ next_as role.Label (id_word (codes "$a")) ∷ next lp ∷ near_as role.HeldBegin if_word ∷ next lp
    ∷ near_as role.HeldPlain br_word ∷ next_as role.Index (id_word (codes "$a")) ∷ near_as role.HeldEnd rp ∷ next lp
    ∷ near_as role.Then then_word ∷ near rp ∷ near_as role.End rp ∷ near_as role.End rp ∷ near_as role.FieldEnd rp ∷ []

label_of_a_condition : Reads (codes "(func (block $a (if (br $a) (then))))")
    (func_field 1 undeclared (Function.code (type_use None (signature [] [])) []
    (Code.region block (head (kept block_word 3) (Some (identifier 4 (codes "$a"))) (short None) None None)
    (Code.op (indexed Br (named (identifier 9 (codes "$a"))))
    (Code.choice (head (kept if_word 6) None (short None) None None) Code.empty Code.empty Code.empty)) Code.empty))
    ∷ [])
unfolding is_idchar
label_of_a_condition = reads label_of_a_condition_tokens refl (lit≤ tt)
    (fields (more (a_func (then skip (then keep (then no_export (then (right
    (then no_use (then none (more (a_folded (folded_region (then skip (then keep
    (then (then (right keep) no_use) (then (more (a_folded (folded_if (then skip
    (then keep (then no_head (then
    (more (folded_plain (then skip (then (index_name (then keep (right keep))) (then none keep)))) none)
    (then skip (then keep (then none (then skip (then absent keep))))))))))) none) keep)))))) none)))) keep))))) none))
    (AreFields.more (kept rp 16) (IsField.func_word refl plainly (IsFunction.code no_type_use AreLocals.none
    (Says.more (Says.folded (Says.folded_region (kept rp 15) (IsRegion.block_word refl)
    (IsHead.both (IsId.there (IsIdentifier.bytes refl)) (IsBlockType.no_type no_type_use))
    (Says.more (Says.folded (Says.folded_then (kept then_word 12) (kept rp 14) refl bare_head
    (Says.more_folded
    (Says.folded_plain (kept rp 10) (IsPlain.index_name refl (IsIndex.id (IsIdentifier.bytes refl))) Says.no_folded)
    Says.no_folded) Says.none)) Says.none))) Says.none))) AreFields.none)

-- `(func (block (br 2)))`: how many labels there are is judged later
abbrev label_out_of_range_tokens : List Placed
label_out_of_range_tokens =
    near lp ∷ near_as role.Field func_word ∷ next lp ∷ near_as role.Begin block_word ∷ next lp
    ∷ near_as role.HeldPlain br_word ∷ next_as role.Index two_word ∷ near_as role.HeldEnd rp ∷ near_as role.End rp
    ∷ near_as role.FieldEnd rp ∷ []

label_out_of_range : Reads (codes "(func (block (br 2)))")
    (func_field 1 undeclared (Function.code (type_use None (signature [] [])) []
    (Code.region block (head (kept block_word 3) None (short None) None None)
    (Code.op (indexed Br (number 6 2)) Code.empty) Code.empty)) ∷ [])
unfolding is_idchar
label_out_of_range = reads label_out_of_range_tokens refl (lit≤ tt)
    (fields (more (a_func (then skip (then keep (then no_export (then (right
    (then no_use (then none (more (a_folded (folded_region (then skip (then keep
    (then no_head (then
    (more (a_folded (folded_plain (then skip (then (index_name (then keep (left keep))) (then none keep))))) none)
    keep)))))) none)))) keep))))) none))
    (AreFields.more (kept rp 9) (IsField.func_word refl plainly (IsFunction.code no_type_use AreLocals.none
    (Says.more (Says.folded (Says.folded_region (kept rp 8) (IsRegion.block_word refl) bare_head
    (Says.more
    (Says.folded (Says.folded_plain (kept rp 7) (IsPlain.index_name refl (IsIndex.u32 is_natural)) Says.no_folded))
    Says.none))) Says.none))) AreFields.none)
