-- Limits of memories, and globals.
use Rattle.std.proofs.Common.{List, [], ◌∷◌, Some, None, false, refl, codes, lit<, lit≤}
use Rattle.wc_tokens.specs.Standard.Digits.{digit_of, Digits}
use Rattle.wc_tokens.specs.Standard.Numbers.{Natural, Literal}
use Rattle.wc_tokens.specs.Standard.Lexemes.{is_idchar}
use Rattle.wc_ops.specs.declared.val_type.ValType.TheVariants.{I32}
use Rattle.wc_body.specs.Standard.Nested.{Code}
use Rattle.wc_syntax.specs.declared.role.Role.TheVariants as role
use Rattle.wc_syntax.specs.Standard.Deriving.{then, left, right, none, more}
use Rattle.wc_surface.specs.Standard.Written.Instructions.{i64_const}
use Rattle.wc_surface.specs.Standard.Written.Fields.{Memory, Global, memory_field, global_field}
use Rattle.wc_parse_code.specs.Standard.Productions.Tokens.{IsLiteral}
use Rattle.wc_parse_code.specs.Standard.Productions.Plain.{IsPlain}
use Rattle.wc_parse_code.specs.Standard.Productions.Instructions.{Says}
use Rattle.wc_parse_field.specs.Standard.Productions.Parts.{AreLimits, IsGlobalType}
use Rattle.wc_parse_field.specs.Standard.Productions.Fields.{IsMemory, IsGlobal, IsField, AreFields}
use Rattle.wc_parse.proofs.Examples.Rows.Lexed.Tokens.{Token, Placed, near, near_as, next, next_as}
use Rattle.wc_parse.proofs.Examples.Rows.Lexed.Reading.{Reads, reads}
use Rattle.wc_parse.proofs.Examples.Rows.Lexed.Words.{lp, rp, i32_word, memory_word, global_word, wide_const_word, kept}
use Rattle.wc_parse.proofs.Examples.Rows.Lexed.Words.{number_word, is_natural, zero_spelled, zero_word, one_word}
use Rattle.wc_parse.proofs.Examples.Rows.Lexed.Words.{two_word}
use Rattle.wc_parse.proofs.Examples.Rows.Parts.Absent.{undeclared, plainly}
use Rattle.wc_parse.proofs.Examples.Rows.Lexed.Grammar.{skip, keep, absent, no_export, fields, a_memory, a_global}
use Rattle.wc_parse.proofs.Examples.Rows.Lexed.Grammar.{a_folded, folded_plain, wide_const_name}

-- `65537`
limit_spelled : Natural (codes "65537") 65537
unfolding digit_of
limit_spelled = Natural.decimal (Digits.more 55
    (Digits.more 51 (Digits.more 53 (Digits.more 53 (Digits.one 54 (lit< tt)) (lit< tt)) (lit< tt)) (lit< tt))
    (lit< tt))

abbrev limit_word : Token
limit_word = number_word limit_spelled (lit< tt)

-- `(memory 2 1)`: judged later, as are the two after it
abbrev limits_out_of_order_tokens : List Placed
limits_out_of_order_tokens =
    near lp ∷ near_as role.Field memory_word ∷ next_as role.LimitsMin two_word ∷ next_as role.LimitsMax one_word
    ∷ near_as role.FieldEnd rp ∷ []

limits_out_of_order : Reads (codes "(memory 2 1)")
    (memory_field undeclared (Memory.limits (record { min = 2; max = Some 1 })) ∷ [])
unfolding is_idchar
limits_out_of_order = reads limits_out_of_order_tokens refl (lit≤ tt)
    (fields
    (more (a_memory (then skip (then keep (then no_export (then (right (left (then keep (right keep)))) keep))))) none))
    (AreFields.more (kept rp 4)
    (IsField.memory_word refl plainly (IsMemory.limits (AreLimits.both is_natural is_natural))) AreFields.none)

-- `(memory 65537)`
abbrev limit_too_large_tokens : List Placed
limit_too_large_tokens =
    near lp ∷ near_as role.Field memory_word ∷ next_as role.LimitsMin limit_word ∷ near_as role.FieldEnd rp ∷ []

limit_too_large : Reads (codes "(memory 65537)")
    (memory_field undeclared (Memory.limits (record { min = 65537; max = None })) ∷ [])
unfolding is_idchar
limit_too_large = reads limit_too_large_tokens refl (lit≤ tt)
    (fields
    (more (a_memory (then skip (then keep (then no_export (then (right (left (then keep absent))) keep))))) none))
    (AreFields.more (kept rp 3) (IsField.memory_word refl plainly (IsMemory.limits (AreLimits.least is_natural)))
    AreFields.none)

-- `(memory 0) (memory 0)`
abbrev two_memories_tokens : List Placed
two_memories_tokens =
    near lp ∷ near_as role.Field memory_word ∷ next_as role.LimitsMin zero_word ∷ near_as role.FieldEnd rp ∷ next lp
    ∷ near_as role.Field memory_word ∷ next_as role.LimitsMin zero_word ∷ near_as role.FieldEnd rp ∷ []

two_memories : Reads (codes "(memory 0) (memory 0)")
    (memory_field undeclared (Memory.limits (record { min = 0; max = None }))
    ∷ memory_field undeclared (Memory.limits (record { min = 0; max = None })) ∷ [])
unfolding is_idchar
two_memories = reads two_memories_tokens refl (lit≤ tt)
    (fields (more (a_memory (then skip (then keep (then no_export (then (right (left (then keep absent))) keep)))))
    (more (a_memory (then skip (then keep (then no_export (then (right (left (then keep absent))) keep))))) none)))
    (AreFields.more (kept rp 3) (IsField.memory_word refl plainly (IsMemory.limits (AreLimits.least is_natural)))
    (AreFields.more (kept rp 7) (IsField.memory_word refl plainly (IsMemory.limits (AreLimits.least is_natural)))
    AreFields.none))

-- `(global i32 (i64.const 0))`: that its value has another type is judged later
abbrev global_of_another_type_tokens : List Placed
global_of_another_type_tokens =
    near lp ∷ near_as role.Field global_word ∷ next_as role.GlobalType i32_word ∷ next lp
    ∷ near_as role.HeldPlain wide_const_word ∷ next_as role.Literal zero_word ∷ near_as role.HeldEnd rp
    ∷ near_as role.FieldEnd rp ∷ []

global_of_another_type : Reads (codes "(global i32 (i64.const 0))")
    (global_field undeclared (Global.init (record { ty = I32; mutable = false }) (Code.op (i64_const 0) Code.empty))
    ∷ [])
unfolding is_idchar
global_of_another_type = reads global_of_another_type_tokens refl (lit≤ tt)
    (fields (more (a_global (then skip (then keep (then no_export (then (right
    (then (left keep) (more
    (a_folded (folded_plain (then skip (then (wide_const_name (then keep (left keep))) (then none keep))))) none)))
    keep))))) none))
    (AreFields.more (kept rp 7) (IsField.global_word refl plainly (IsGlobal.init (IsGlobalType.constant refl)
    (Says.more (Says.folded (Says.folded_plain (kept rp 6)
    (IsPlain.i64_const_name refl (IsLiteral.spelled (Literal.unsigned zero_spelled) (lit< tt))) Says.no_folded))
    Says.none))) AreFields.none)
