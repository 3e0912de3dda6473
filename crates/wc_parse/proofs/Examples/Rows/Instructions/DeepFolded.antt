-- Folded blocks in folded blocks: a thousand, and the most that there may be.
use Rattle.std.proofs.Common.{◌≡◌, ◌≤◌, ℕ, zero, suc, ◌+◌, ◌*◌, true, List, [], ◌∷◌, ◌++◌, None, length, refl, sym, ap}
use Rattle.std.proofs.Common.{subst, ◌∙◌, append_assoc, codes, arith, lit≤}
use Rattle.std.specs.Cmp.Derive.{both_true}
use Rattle.wc_tokens.specs.declared.token.TokenKind.TheVariants as token
use Rattle.wc_tokens.specs.Standard.Lexemes.{is_idchar}
use Rattle.wc_body.specs.Standard.Nested.{block, Code, nesting_limit}
use Rattle.wc_syntax.specs.declared.kind.Kind.TheVariants as kind
use Rattle.wc_syntax.specs.declared.role.Role.TheVariants as role
use Rattle.wc_syntax.specs.Standard.Phrases.{word, The, text}
use Rattle.wc_syntax.specs.Standard.Instructions.{instrs as instructions}
use Rattle.wc_syntax.specs.Standard.Deriving.{at, Item, Event, kept as keeps, numbered, Derives, then, right, none}
use Rattle.wc_syntax.specs.Standard.Parsing.{IsText}
use Rattle.wc_surface.specs.Standard.Written.Instructions.{Instrs, short}
use Rattle.wc_surface.specs.Standard.Written.Fields.{Field, Function, func_field}
use Rattle.wc_parse_code.specs.Standard.Productions.Tokens.{Said, ◌⊳◌}
use Rattle.wc_parse_code.specs.Standard.Productions.TypeUses.{signature, type_use}
use Rattle.wc_parse_code.specs.Standard.Productions.Instructions.{IsRegion, head, Says, instrs}
use Rattle.wc_parse_field.specs.Standard.Productions.Parts.{AreLocals}
use Rattle.wc_parse_field.specs.Standard.Productions.Fields.{IsFunction, IsField, AreFields}
use Rattle.wc_parse.proofs.Examples.Rows.Lexed.Tokens.{Placed, near, near_as, text_of, kinds_of, events_from, said_from}
use Rattle.wc_parse.proofs.Examples.Rows.Lexed.Reading.{Reads, may_precede, are_tokens, are_ascii, is_whole, reads}
use Rattle.wc_parse.proofs.Examples.Rows.Lexed.Words.{lp, rp, func_word, block_word, kept}
use Rattle.wc_parse.proofs.Examples.Rows.Instructions.Repeated.{times, above, single, alone}
use Rattle.wc_parse.proofs.Examples.Rows.Parts.Absent.{undeclared, plainly, no_type_use, bare_head}
use Rattle.wc_parse.proofs.Examples.Rows.Lexed.Grammar.{skip, keep, no_use, no_head, no_export, fields, a_func}
use Rattle.wc_parse.proofs.Examples.Rows.Lexed.Grammar.{a_folded, folded_region}

-- so many blocks around nothing, and then these tokens: each is closed behind those in it
abbrev blocks : ℕ → List Placed → List Placed
blocks zero ps = ps
blocks (suc n) ps = near lp ∷ near_as role.Begin block_word ∷ blocks n (near_as role.End rp ∷ ps)

-- `(func(block .. ))`
abbrev function_of : ℕ → List Placed
function_of n = near lp ∷ near_as role.Field func_word ∷ blocks n (near_as role.FieldEnd rp ∷ [])

-- the number behind blocks whose first token has this one
abbrev behind : ℕ → ℕ → ℕ
behind zero k = k
behind (suc n) k = suc (behind n (suc (suc k)))

-- what the blocks say: each has those behind it inside
abbrev nested_from : ℕ → ℕ → Instrs
nested_from zero k = Code.empty
nested_from (suc n) k =
    Code.region block (head (kept block_word (suc k)) None (short None) None None) (nested_from n (suc (suc k)))
    Code.empty

-- the field
abbrev field_of : ℕ → Field
field_of n = func_field 1 undeclared (Function.code (type_use None (signature [] [])) [] (nested_from n 2))

-- ---- the tokens of the blocks alone

abbrev items : ℕ → ℕ → List Item
items zero k = []
items (suc n) k =
    at k (word kind.Open) ∷ at (suc k) (word kind.Region)
    ∷ (items n (suc (suc k)) ++ at (behind n (suc (suc k))) (word kind.Close) ∷ [])

abbrev events : ℕ → ℕ → List Event
events zero k = []
events (suc n) k =
    keeps role.Begin (at (suc k) (word kind.Region))
    ∷ (events n (suc (suc k)) ++ keeps role.End (at (behind n (suc (suc k))) (word kind.Close)) ∷ [])

abbrev said : ℕ → ℕ → List Said
said zero k = []
said (suc n) k =
    role.Begin ⊳ kept block_word (suc k)
    ∷ (said n (suc (suc k)) ++ role.End ⊳ kept rp (behind n (suc (suc k))) ∷ [])

items-first : (n k : ℕ) (ps : List Placed)
    → numbered k (kinds_of (blocks n ps)) ≡ items n k ++ numbered (behind n k) (kinds_of ps)
items-first zero k ps = refl
items-first (suc n) k ps = ap (λ (x : List Item). at k (word kind.Open) ∷ at (suc k) (word kind.Region) ∷ x)
    (items-first n (suc (suc k)) (near_as role.End rp ∷ ps) ∙ sym (append_assoc (items n (suc (suc k))) _ _))

events-first : (n k : ℕ) (ps : List Placed)
    → events_from k (blocks n ps) ≡ events n k ++ events_from (behind n k) ps
events-first zero k ps = refl
events-first (suc n) k ps = ap (λ (x : List Event). keeps role.Begin (at (suc k) (word kind.Region)) ∷ x)
    (events-first n (suc (suc k)) (near_as role.End rp ∷ ps) ∙ sym (append_assoc (events n (suc (suc k))) _ _))

said-first : (n k : ℕ) (ps : List Placed) → said_from k (blocks n ps) ≡ said n k ++ said_from (behind n k) ps
said-first zero k ps = refl
said-first (suc n) k ps = ap (λ (x : List Said). role.Begin ⊳ kept block_word (suc k) ∷ x)
    (said-first n (suc (suc k)) (near_as role.End rp ∷ ps) ∙ sym (append_assoc (said n (suc (suc k))) _ _))

-- ---- by the grammar

derived : (n m k : ℕ) → Derives (instructions (above n m)) (items n k) (events n k)
derived zero m k = none
derived (suc n) m k =
    single (a_folded (folded_region
    (then skip (then keep (then no_head (then (derived n m (suc (suc k))) keep))))))

-- the whole text
text_derived : (n m : ℕ) → IsText (above n m) (kinds_of (function_of n)) (events_from 0 (function_of n))
text_derived n m =
    subst (λ (x : List Item). Derives (The (text (above n m))) (at 0 (word kind.Open) ∷ at 1 (word kind.FuncWord) ∷ x)
    (events_from 0 (function_of n))) (sym (items-first n 2 (near_as role.FieldEnd rp ∷ [])))
    (subst (λ (x : List Event). Derives (The (text (above n m)))
    (at 0 (word kind.Open) ∷ at 1 (word kind.FuncWord) ∷ (items n 2 ++ at (behind n 2) (word kind.Close) ∷ []))
    (keeps role.Field (at 1 (word kind.FuncWord)) ∷ x)) (sym (events-first n 2 (near_as role.FieldEnd rp ∷ [])))
    (fields (single (a_func (then skip (then keep (then no_export
    (then (right (then no_use (then none (derived n m 2)))) keep))))))))

-- ---- by the productions

nested : (n k : ℕ) → Says instrs (said n k) (nested_from n k)
nested zero k = Says.none
nested (suc n) k = alone (Says.folded (Says.folded_region (kept rp (behind n (suc (suc k))))
    (IsRegion.block_word refl) bare_head (nested n (suc (suc k)))))

text_said : (n : ℕ) → AreFields (said_from 0 (function_of n)) (field_of n ∷ [])
text_said n = subst (λ (x : List Said). AreFields (role.Field ⊳ kept func_word 1 ∷ x) (field_of n ∷ []))
    (sym (said-first n 2 (near_as role.FieldEnd rp ∷ [])))
    (AreFields.more (kept rp (behind n 2)) (IsField.func_word refl plainly
    (IsFunction.code no_type_use AreLocals.none (nested n 2))) AreFields.none)

-- ---- by the bytes

-- behind its name stands a parenthesis
spaced : (n : ℕ) (ps : List Placed)
    → may_precede token.Word (text_of (blocks n (near_as role.End rp ∷ ps))) ≡ true
unfolding is_idchar
spaced zero ps = refl
spaced (suc n) ps = refl

tokens : (n : ℕ) (ps : List Placed) → are_tokens ps ≡ true → are_tokens (blocks n ps) ≡ true
unfolding is_idchar
tokens zero ps e = e
tokens (suc n) ps e = both_true (spaced n ps) (tokens n (near_as role.End rp ∷ ps) e)

ascii : (n : ℕ) (ps : List Placed) → are_ascii (text_of ps) ≡ true → are_ascii (text_of (blocks n ps)) ≡ true
ascii zero ps e = e
ascii (suc n) ps e = ascii n (near_as role.End rp ∷ ps) e

size : (n : ℕ) (ps : List Placed) → length (text_of (blocks n ps)) ≤ 7 * n + length (text_of ps)
size zero ps = omega arith
size (suc n) ps = let s = size n (near_as role.End rp ∷ ps) in omega (arith, s)

whole : (n : ℕ) → is_whole (function_of n) ≡ true
unfolding is_idchar
whole zero = refl
whole (suc n) = both_true (tokens (suc n) (near_as role.FieldEnd rp ∷ []) refl)
    (ascii (suc n) (near_as role.FieldEnd rp ∷ []) refl)

-- ---- the text

-- a parenthesis behind so many of them, and in front
shift : (n : ℕ) (rest : List ℕ)
    → times n (codes ")") ++ (codes ")" ++ rest) ≡ codes ")" ++ (times n (codes ")") ++ rest)
shift zero rest = refl
shift (suc n) rest = ap (λ (x : List ℕ). codes ")" ++ x) (shift n rest)

spelled : (n : ℕ) (ps : List Placed)
    → text_of (blocks n ps) ≡ times n (codes "(block") ++ (times n (codes ")") ++ text_of ps)
spelled zero ps = refl
spelled (suc n) ps = ap (λ (x : List ℕ). codes "(block" ++ x) (spelled n (near_as role.End rp ∷ ps)
    ∙ ap (λ (x : List ℕ). times n (codes "(block") ++ x) (shift n (text_of ps)))

-- ---- so it reads

-- `(func`, so many times `(block`, as many times `)`, and `)`
abbrev text_with : ℕ → List ℕ
text_with n = codes "(func" ++ (times n (codes "(block") ++ (times n (codes ")") ++ codes ")"))

reads_so : (n m : ℕ) → above n m ≡ nesting_limit → n ≤ 20000 → Reads (text_with n) (field_of n ∷ [])
reads_so n m e small = subst (λ (x : List ℕ). Reads (codes "(func" ++ x) (field_of n ∷ []))
    (spelled n (near_as role.FieldEnd rp ∷ []))
    (reads (function_of n) (whole n) (let s = size n (near_as role.FieldEnd rp ∷ []) in omega (arith, s, small))
    (subst (λ (d : ℕ). IsText d (kinds_of (function_of n)) (events_from 0 (function_of n))) e (text_derived n m))
    (text_said n))

-- a thousand of them
thousand_folded : Reads (text_with 1000) (field_of 1000 ∷ [])
thousand_folded = reads_so 1000 19000 refl (lit≤ tt)

-- and as many as there may be
most_folded : Reads (text_with 20000) (field_of 20000 ∷ [])
most_folded = reads_so 20000 0 refl (lit≤ tt)
