-- The text `(module $m (memory 2))`, from its tokens to its field, and how this is stored.
use Rattle.std.proofs.Common.{◌≡◌, ℕ, List, [], ◌∷◌, Some, None, refl, codes, lit<}
use Rattle.wc_tokens.specs.declared.token.TokenKind.{TokenKind}
use Rattle.wc_tokens.specs.declared.token.TokenKind.TheVariants as token
use Rattle.wc_tokens.specs.Standard.Digits.{digit_of, Digits}
use Rattle.wc_tokens.specs.Standard.Numbers.{Natural}
use Rattle.wc_tokens.specs.Standard.Lexemes.{Lexeme}
use Rattle.wc_body.specs.Standard.Nested.{nesting_limit}
use Rattle.wc_syntax.specs.declared.kind.Kind.{Kind}
use Rattle.wc_syntax.specs.declared.kind.Kind.TheVariants as kind
use Rattle.wc_syntax.specs.declared.role.Role.TheVariants as role
use Rattle.wc_syntax.specs.Standard.Phrases.{word, The, modulefield}
use Rattle.wc_syntax.specs.Standard.Deriving.{at, Event, kept, Derives}
use Rattle.wc_syntax.specs.Standard.Parsing.{IsText}
use Rattle.wc_symbols.specs.declared.symbol.Value.TheVariants.{Number}
use Rattle.wc_symbols.specs.Standard.Symbols.{valued, bare}
use Rattle.wc_symbols.specs.Standard.Numbers.{NaturalIs}
use Rattle.wc_symbols.specs.Standard.Names.{keyword, KeywordIs, NameIs}
use Rattle.wc_symbols.specs.Standard.Words.{Says, WordIs}
use Rattle.wc_surface.specs.declared.field.Field.TheVariants as stored
use Rattle.wc_surface.specs.declared.field.MemoryDesc.TheVariants as memory
use Rattle.wc_surface.specs.Standard.Written.Fields.{Memory, Field, memory_field}
use Rattle.wc_parse_code.specs.Standard.Tokens.{KeptToken, kept_token}
use Rattle.wc_parse_code.specs.Standard.Productions.Tokens.{Said, ◌⊳◌, IsId}
use Rattle.wc_parse_field.specs.Standard.Productions.Parts.{AreExports, IsDeclared, AreLimits}
use Rattle.wc_parse_field.specs.Standard.Productions.Fields.{IsMemory, IsField, AreFields}
use Rattle.wc_parse.specs.Standard.Kinds.{Each, HasKind}
use Rattle.wc_parse.specs.Standard.Productions.{IsKept, SaysFields}
use Rattle.wc_parse.specs.Standard.Meaning.{Syn}

-- the token of this form and text, from one place to another
abbrev lexeme : TokenKind → List ℕ → ℕ → ℕ → Lexeme
lexeme k text start stop = record { kind = k; text = text; start = start; stop = stop }

-- the tokens
abbrev tokens : List Lexeme
tokens =
    lexeme token.Open (codes "(") 0 1
    ∷ lexeme token.Word (codes "module") 1 7
    ∷ lexeme token.Id (codes "$m") 8 10
    ∷ lexeme token.Open (codes "(") 11 12
    ∷ lexeme token.Word (codes "memory") 12 18
    ∷ lexeme token.Word (codes "2") 19 20
    ∷ lexeme token.Close (codes ")") 20 21
    ∷ lexeme token.Close (codes ")") 21 22
    ∷ []

-- their kinds
abbrev kinds : List Kind
kinds =
    kind.Open ∷ kind.ModuleWord ∷ kind.Id ∷ kind.Open ∷ kind.MemoryWord ∷ kind.Natural32 ∷ kind.Close ∷ kind.Close ∷ []

-- the words of them that are kept
abbrev memory_word : KeptToken
memory_word = kept_token 4 (bare kind.MemoryWord) (codes "memory")

-- `2`
abbrev two : KeptToken
two = kept_token 5 (valued kind.Natural32 (Number 2)) (codes "2")

-- `)` behind it
abbrev end_of_field : KeptToken
end_of_field = kept_token 6 (bare kind.Close) (codes ")")

-- what is kept
abbrev events : List Event
events =
    kept role.Field (at 4 (word kind.MemoryWord)) ∷ kept role.LimitsMin (at 5 (word kind.Natural32))
    ∷ kept role.FieldEnd (at 6 (word kind.Close)) ∷ []

-- and what each is
abbrev said : List Said
said = role.Field ⊳ memory_word ∷ role.LimitsMin ⊳ two ∷ role.FieldEnd ⊳ end_of_field ∷ []

-- the field: without an identifier, which the module alone has
abbrev field : Field
field = memory_field (record { id = None; exports = [] }) (Memory.limits (record { min = 2; max = None }))

-- 2, in digits
two_spelled : Natural (codes "2") 2
unfolding digit_of
two_spelled = Natural.decimal (Digits.one 50 (lit< tt))

-- a keyword is one to the grammar
keyword_is : {text : List ℕ} (k : Kind) → keyword k ≡ Some text → WordIs text (bare k)
keyword_is k e = WordIs.known (Says.name (NameIs.keyword_is (KeywordIs.word k e)))

-- `2` is a number to it
number_is : WordIs (codes "2") (valued kind.Natural32 (Number 2))
number_is = WordIs.known (Says.natural (NaturalIs.below_32 two_spelled (lit< tt)))

-- each token has its kind
kinds_are : Each HasKind tokens kinds
kinds_are =
    Each.more (bare kind.Open, refl, refl)
    (Each.more (bare kind.ModuleWord, keyword_is kind.ModuleWord refl, refl)
    (Each.more (bare kind.Id, refl, refl)
    (Each.more (bare kind.Open, refl, refl)
    (Each.more (bare kind.MemoryWord, keyword_is kind.MemoryWord refl, refl)
    (Each.more (valued kind.Natural32 (Number 2), number_is, refl)
    (Each.more (bare kind.Close, refl, refl)
    (Each.more (bare kind.Close, refl, refl) Each.none)))))))

-- `memory` and what follows it, by the grammar
field_derives : Derives (The (modulefield nesting_limit))
    (at 3 (word kind.Open) ∷ at 4 (word kind.MemoryWord) ∷ at 5 (word kind.Natural32) ∷ at 6 (word kind.Close) ∷ [])
    events
field_derives = Derives.rule (Derives.right (Derives.right (Derives.right (Derives.right (Derives.left
    (Derives.then (Derives.token refl)
    (Derives.then (Derives.keeps refl)
    (Derives.then (Derives.then (Derives.left Derives.empty) Derives.none)
    (Derives.then (Derives.right (Derives.left (Derives.then (Derives.keeps refl) (Derives.left Derives.empty))))
    (Derives.keeps refl))))))))))

-- the tokens are a text
text_derives : IsText nesting_limit kinds events
text_derives = Derives.rule (Derives.left
    (Derives.then (Derives.token refl)
    (Derives.then (Derives.token refl)
    (Derives.then (Derives.right (Derives.token refl))
    (Derives.then (Derives.more field_derives Derives.none) (Derives.token refl))))))

-- each kept token is the one of its number
kept_are : Each (IsKept tokens) events said
kept_are =
    Each.more (IsKept.stands refl (keyword_is kind.MemoryWord refl) refl)
    (Each.more (IsKept.stands refl number_is refl)
    (Each.more (IsKept.stands refl refl refl) Each.none))

-- so the text says one field
module_says : SaysFields tokens (field ∷ [])
module_says = record {
  kinds = kinds;
  are_kinds = kinds_are;
  es = events;
  text = text_derives;
  words = said;
  are_kept = kept_are;
  says = AreFields.more end_of_field (IsField.memory_word refl (IsDeclared.both IsId.absent AreExports.none)
      (IsMemory.limits (AreLimits.least (record { kind_is = refl; value_is = refl })))) AreFields.none;
}

-- and this is the field as it is stored
module_stored : Syn tokens
    (stored.Memory (record { id = None; exports = []; desc = memory.Limits (record { min = 2; max = None }) }) ∷ [])
module_stored = record { written = field ∷ []; says = module_says; stored = refl }
