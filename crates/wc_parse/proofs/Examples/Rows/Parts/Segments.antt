-- Elements and bytes, beside a table or a memory and inside.
use Rattle.std.proofs.Common.{List, [], ◌∷◌, Some, None, refl, codes, lit≤}
use Rattle.wc_tokens.specs.Standard.Lexemes.{is_idchar}
use Rattle.wc_body.specs.Standard.Nested.{Code}
use Rattle.wc_syntax.specs.declared.role.Role.TheVariants as role
use Rattle.wc_syntax.specs.Standard.Deriving.{then, left, right, none, more}
use Rattle.wc_surface.specs.Standard.Identifiers.{identifier}
use Rattle.wc_surface.specs.Standard.Written.Indices.{named}
use Rattle.wc_surface.specs.Standard.Written.Instructions.{i32_const}
use Rattle.wc_surface.specs.Standard.Written.Fields.{Function, Table, Memory, func_field, table_field, memory_field}
use Rattle.wc_surface.specs.Standard.Written.Fields.{data_field}
use Rattle.wc_parse_code.specs.Standard.Productions.Tokens.{IsIdentifier, IsId, IsIndex}
use Rattle.wc_parse_code.specs.Standard.Productions.TypeUses.{signature, type_use}
use Rattle.wc_parse_code.specs.Standard.Productions.Plain.{IsPlain}
use Rattle.wc_parse_code.specs.Standard.Productions.Instructions.{Says}
use Rattle.wc_parse_field.specs.Standard.Productions.Parts.{AreStrings, AreElements, AreExports, IsDeclared, AreLocals}
use Rattle.wc_parse_field.specs.Standard.Productions.Parts.{AreLimits, IsOffset, IsTarget}
use Rattle.wc_parse_field.specs.Standard.Productions.Fields.{IsFunction, IsTable, IsMemory, IsField, AreFields}
use Rattle.wc_parse.proofs.Examples.Rows.Lexed.Tokens.{Placed, near, near_as, next, next_as}
use Rattle.wc_parse.proofs.Examples.Rows.Lexed.Reading.{Reads, reads}
use Rattle.wc_parse.proofs.Examples.Rows.Lexed.Words.{lp, rp, id_word, func_word, table_word, memory_word, elem_word}
use Rattle.wc_parse.proofs.Examples.Rows.Lexed.Words.{data_word, offset_word, funcref_word, const_word, kept}
use Rattle.wc_parse.proofs.Examples.Rows.Lexed.Words.{is_natural, zero_word, zero_literal, one_word}
use Rattle.wc_parse.proofs.Examples.Rows.Lexed.Strings.{letter_string, a_word, three_escapes, escapes_word}
use Rattle.wc_parse.proofs.Examples.Rows.Parts.Absent.{undeclared, plainly, no_type_use}
use Rattle.wc_parse.proofs.Examples.Rows.Lexed.Grammar.{skip, keep, absent, no_use, no_export, fields, a_func, a_table}
use Rattle.wc_parse.proofs.Examples.Rows.Lexed.Grammar.{a_memory, a_data, long_offset, a_plain, const_name}

-- `(memory (data))`
abbrev no_bytes_tokens : List Placed
no_bytes_tokens =
    near lp ∷ near_as role.Field memory_word ∷ next lp ∷ near_as role.Segment data_word ∷ near rp
    ∷ near_as role.FieldEnd rp ∷ []

no_bytes : Reads (codes "(memory (data))")
    (memory_field undeclared (Memory.bytes []) ∷ [])
unfolding is_idchar
no_bytes = reads no_bytes_tokens refl (lit≤ tt)
    (fields (more (a_memory
    (then skip (then keep (then no_export (then (right (right (then skip (then keep (then none skip))))) keep)))))
    none))
    (AreFields.more (kept rp 5) (IsField.memory_word refl plainly (IsMemory.bytes AreStrings.none)) AreFields.none)

-- `(memory (data "\00\ff\u{e9}"))`
abbrev bytes_inside_tokens : List Placed
bytes_inside_tokens =
    near lp ∷ near_as role.Field memory_word ∷ next lp ∷ near_as role.Segment data_word
    ∷ next_as role.Bytes escapes_word ∷ near rp ∷ near_as role.FieldEnd rp ∷ []

bytes_inside : Reads (codes "(memory (data \"\\00\\ff\\u{e9}\"))")
    (memory_field undeclared (Memory.bytes (0 ∷ 0xFF ∷ 0xC3 ∷ 0xA9 ∷ [])) ∷ [])
unfolding is_idchar
bytes_inside = reads bytes_inside_tokens refl (lit≤ tt)
    (fields (more (a_memory (then skip (then keep
    (then no_export (then (right (right (then skip (then keep (then (more (right keep) none) skip))))) keep))))) none))
    (AreFields.more (kept rp 6)
    (IsField.memory_word refl plainly (IsMemory.bytes (AreStrings.more three_escapes AreStrings.none))) AreFields.none)

-- `(memory 1) (data (offset i32.const 0) "a")`
abbrev bytes_beside_tokens : List Placed
bytes_beside_tokens =
    near lp ∷ near_as role.Field memory_word ∷ next_as role.LimitsMin one_word ∷ near_as role.FieldEnd rp ∷ next lp
    ∷ near_as role.Field data_word ∷ next lp ∷ near offset_word ∷ next_as role.Plain const_word
    ∷ next_as role.Literal zero_word ∷ near rp ∷ next_as role.Bytes a_word ∷ near_as role.FieldEnd rp ∷ []

bytes_beside : Reads (codes "(memory 1) (data (offset i32.const 0) \"a\")")
    (memory_field undeclared (Memory.limits (record { min = 1; max = None }))
    ∷ data_field None (Code.op (i32_const 0) Code.empty) (97 ∷ []) ∷ [])
unfolding is_idchar
bytes_beside = reads bytes_beside_tokens refl (lit≤ tt)
    (fields (more (a_memory (then skip (then keep (then no_export (then (right (left (then keep absent))) keep)))))
    (more (a_data (then skip (then keep (then absent (then
    (long_offset (then skip (then skip (then (more (a_plain (const_name (then keep (left keep)))) none) skip))))
    (then (more (left keep) none) keep)))))) none)))
    (AreFields.more (kept rp 3) (IsField.memory_word refl plainly (IsMemory.limits (AreLimits.least is_natural)))
    (AreFields.more (kept rp 12) (IsField.data_word refl IsTarget.absent
    (IsOffset.word (Says.more (Says.plain (IsPlain.i32_const_name refl zero_literal)) Says.none))
    (AreStrings.more (letter_string 97 (lit≤ tt) (lit≤ tt)) AreStrings.none)) AreFields.none))

-- `(table funcref (elem $f $f)) (func $f)`
abbrev elements_inside_tokens : List Placed
elements_inside_tokens =
    near lp ∷ near_as role.Field table_word ∷ next funcref_word ∷ next lp ∷ near_as role.Segment elem_word
    ∷ next_as role.Element (id_word (codes "$f")) ∷ next_as role.Element (id_word (codes "$f")) ∷ near rp
    ∷ near_as role.FieldEnd rp ∷ next lp ∷ near_as role.Field func_word ∷ next_as role.FieldId (id_word (codes "$f"))
    ∷ near_as role.FieldEnd rp ∷ []

elements_inside : Reads (codes "(table funcref (elem $f $f)) (func $f)")
    (table_field undeclared
    (Table.elements (named (identifier 5 (codes "$f")) ∷ named (identifier 6 (codes "$f")) ∷ []))
    ∷ func_field 10 (record { id = Some (identifier 11 (codes "$f")); exports = [] })
    (Function.code (type_use None (signature [] [])) [] Code.empty) ∷ [])
unfolding is_idchar
elements_inside = reads elements_inside_tokens refl (lit≤ tt)
    (fields (more (a_table (then skip (then keep (then no_export (then
    (right (right (then skip (then skip (then keep (then (more (right keep) (more (right keep) none)) skip))))))
    keep))))) (more
    (a_func (then skip (then keep (then (then (right keep) none) (then (right (then no_use (then none none))) keep)))))
    none)))
    (AreFields.more (kept rp 8) (IsField.table_word refl plainly (IsTable.elements
    (AreElements.more (IsIndex.id (IsIdentifier.bytes refl))
    (AreElements.more (IsIndex.id (IsIdentifier.bytes refl)) AreElements.none))))
    (AreFields.more (kept rp 12) (IsField.func_word refl
    (IsDeclared.both (IsId.there (IsIdentifier.bytes refl)) AreExports.none)
    (IsFunction.code no_type_use AreLocals.none Says.none)) AreFields.none))
