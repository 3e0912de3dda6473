-- Constants, by their bits.
use Rattle.std.proofs.Common.{List, [], ◌∷◌, None, refl, codes, lit<, lit≤, arith}
use Rattle.wc_tokens.specs.Standard.Digits.{digit_of, Digits}
use Rattle.wc_tokens.specs.Standard.Numbers.{Natural, Literal}
use Rattle.wc_tokens.specs.Standard.Lexemes.{is_idchar}
use Rattle.wc_body.specs.Standard.Nested.{Code}
use Rattle.wc_syntax.specs.declared.kind.Kind.TheVariants as kind
use Rattle.wc_syntax.specs.declared.role.Role.TheVariants as role
use Rattle.wc_syntax.specs.Standard.Deriving.{then, left, right, none, more}
use Rattle.wc_symbols.specs.declared.symbol.Value.TheVariants.{Number}
use Rattle.wc_symbols.specs.Standard.Symbols.{valued}
use Rattle.wc_symbols.specs.Standard.Numbers.{SignedIs}
use Rattle.wc_symbols.specs.Standard.Words.{Says as Spoken, WordIs}
use Rattle.wc_surface.specs.Standard.Written.Instructions.{i32_const, i64_const}
use Rattle.wc_surface.specs.Standard.Written.Fields.{Function, func_field}
use Rattle.wc_parse_code.specs.Standard.Productions.Tokens.{IsLiteral}
use Rattle.wc_parse_code.specs.Standard.Productions.TypeUses.{signature, type_use}
use Rattle.wc_parse_code.specs.Standard.Productions.Plain.{IsPlain}
use Rattle.wc_parse_code.specs.Standard.Productions.Instructions.{Says}
use Rattle.wc_parse_field.specs.Standard.Productions.Parts.{AreLocals}
use Rattle.wc_parse_field.specs.Standard.Productions.Fields.{IsFunction, IsField, AreFields}
use Rattle.wc_parse.proofs.Examples.Rows.Lexed.Tokens.{Token, Placed, near, near_as, next_as}
use Rattle.wc_parse.proofs.Examples.Rows.Lexed.Reading.{Reads, reads}
use Rattle.wc_parse.proofs.Examples.Rows.Lexed.Words.{lp, rp, word_of, func_word, const_word, wide_const_word, kept}
use Rattle.wc_parse.proofs.Examples.Rows.Lexed.Words.{number_word}
use Rattle.wc_parse.proofs.Examples.Rows.Parts.Absent.{undeclared, plainly, no_type_use}
use Rattle.wc_parse.proofs.Examples.Rows.Lexed.Grammar.{skip, keep, no_use, no_export, fields, a_func, a_plain}
use Rattle.wc_parse.proofs.Examples.Rows.Lexed.Grammar.{const_name, wide_const_name}

-- `64`
sixty_four_spelled : Natural (codes "64") 64
unfolding digit_of
sixty_four_spelled = Natural.decimal (Digits.more 52 (Digits.one 54 (lit< tt)) (lit< tt))

abbrev sixty_four_word : Token
sixty_four_word = number_word sixty_four_spelled (lit< tt)

-- `4294967295`
largest_spelled : Natural (codes "4294967295") 4294967295
unfolding digit_of
largest_spelled = Natural.decimal (Digits.more 53 (Digits.more 57 (Digits.more 50
    (Digits.more 55 (Digits.more 54 (Digits.more 57
    (Digits.more 52 (Digits.more 57 (Digits.more 50 (Digits.one 52 (lit< tt)) (lit< tt)) (lit< tt)) (lit< tt))
    (lit< tt)) (lit< tt)) (lit< tt)) (lit< tt)) (lit< tt)) (lit< tt))

abbrev largest_word : Token
largest_word = number_word largest_spelled (lit< tt)

-- `-64`
minus_64_is : WordIs (codes "-64") (valued kind.Signed32 (Number 0xFFFFFFFFFFFFFFC0))
minus_64_is = WordIs.known (Spoken.signed (SignedIs.of_32 (Literal.minus sixty_four_spelled) tt (lit≤ tt)))

abbrev minus_64_word : Token
minus_64_word = word_of minus_64_is

-- `-9223372036854775808`
half_spelled : Natural (codes "9223372036854775808") 9223372036854775808
unfolding digit_of
half_spelled = Natural.decimal (Digits.more 56 (Digits.more 48 (Digits.more 56
    (Digits.more 53 (Digits.more 55 (Digits.more 55 (Digits.more 52 (Digits.more 53
    (Digits.more 56 (Digits.more 54 (Digits.more 51 (Digits.more 48 (Digits.more 50
    (Digits.more 55 (Digits.more 51
    (Digits.more 51 (Digits.more 50 (Digits.more 50 (Digits.one 57 (lit< tt)) (lit< tt)) (lit< tt)) (lit< tt))
    (lit< tt)) (lit< tt)) (lit< tt)) (lit< tt)) (lit< tt)) (lit< tt)) (lit< tt)) (lit< tt)) (lit< tt)) (lit< tt))
    (lit< tt)) (lit< tt)) (lit< tt)) (lit< tt)) (lit< tt))

least_is : WordIs (codes "-9223372036854775808") (valued kind.Signed64 (Number 0x8000000000000000))
least_is = WordIs.known
    (Spoken.signed (SignedIs.of_64 (Literal.minus half_spelled) tt (λ fits. omega arith) (lit≤ tt)))

abbrev least_word : Token
least_word = word_of least_is

-- `(func i32.const 4294967295 i32.const 64 i32.const -64)`: the first and the last as a two's complement in 32 bits
abbrev two_complements_tokens : List Placed
two_complements_tokens =
    near lp ∷ near_as role.Field func_word ∷ next_as role.Plain const_word ∷ next_as role.Literal largest_word
    ∷ next_as role.Plain const_word ∷ next_as role.Literal sixty_four_word ∷ next_as role.Plain const_word
    ∷ next_as role.Literal minus_64_word ∷ near_as role.FieldEnd rp ∷ []

two_complements : Reads (codes "(func i32.const 4294967295 i32.const 64 i32.const -64)")
    (func_field 1 undeclared (Function.code (type_use None (signature [] [])) []
    (Code.op (i32_const 0xFFFFFFFF) (Code.op (i32_const 64) (Code.op (i32_const 0xFFFFFFC0) Code.empty)))) ∷ [])
unfolding is_idchar
two_complements = reads two_complements_tokens refl (lit≤ tt)
    (fields (more (a_func (then skip (then keep (then no_export (then (right
    (then no_use (then none (more (a_plain (const_name (then keep (left keep))))
    (more (a_plain (const_name (then keep (left keep))))
    (more (a_plain (const_name (then keep (right keep)))) none)))))) keep))))) none))
    (AreFields.more (kept rp 8) (IsField.func_word refl plainly (IsFunction.code no_type_use AreLocals.none
    (Says.more
    (Says.plain (IsPlain.i32_const_name refl (IsLiteral.spelled (Literal.unsigned largest_spelled) (lit< tt))))
    (Says.more
    (Says.plain (IsPlain.i32_const_name refl (IsLiteral.spelled (Literal.unsigned sixty_four_spelled) (lit< tt))))
    (Says.more
    (Says.plain (IsPlain.i32_const_name refl (IsLiteral.spelled (Literal.minus sixty_four_spelled) (lit≤ tt))))
    Says.none))))) AreFields.none)

-- `(func i64.const -9223372036854775808)`
abbrev least_of_64_tokens : List Placed
least_of_64_tokens =
    near lp ∷ near_as role.Field func_word ∷ next_as role.Plain wide_const_word ∷ next_as role.Literal least_word
    ∷ near_as role.FieldEnd rp ∷ []

least_of_64 : Reads (codes "(func i64.const -9223372036854775808)")
    (func_field 1 undeclared
    (Function.code (type_use None (signature [] [])) [] (Code.op (i64_const 0x8000000000000000) Code.empty)) ∷ [])
unfolding is_idchar
least_of_64 = reads least_of_64_tokens refl (lit≤ tt)
    (fields (more (a_func (then skip (then keep (then no_export (then
    (right (then no_use (then none (more (a_plain (wide_const_name (then keep (right (right (right keep)))))) none))))
    keep))))) none))
    (AreFields.more (kept rp 4) (IsField.func_word refl plainly (IsFunction.code no_type_use AreLocals.none
    (Says.more (Says.plain (IsPlain.i64_const_name refl (IsLiteral.spelled (Literal.minus half_spelled) (lit≤ tt))))
    Says.none))) AreFields.none)
