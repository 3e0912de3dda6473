-- Tokens read one after another, and what they add to a text that is being said.
use Rattle.std.specs.Prelude.{◌≡◌, ℕ, ◌+◌, Bool, true, false, List, [], ◌∷◌, ◌++◌, length, Option, Some, None}
use Rattle.wc_tokens.specs.declared.token.TokenKind.{TokenKind}
use Rattle.wc_tokens.specs.declared.token.TokenKind.TheVariants as token
use Rattle.wc_tokens.specs.Standard.Lexemes.{Lexeme}
use Rattle.wc_tokens.specs.Standard.Streams.{Unread, Gives}
use Rattle.wc_syntax.specs.declared.kind.Kind.{Kind}
use Rattle.wc_syntax.specs.declared.kind.Kind.TheVariants as kind
use Rattle.wc_syntax.specs.declared.role.Role.{Role}
use Rattle.wc_syntax.specs.declared.place.Action.{Action}
use Rattle.wc_syntax.specs.Standard.Reading.{Standing, moved, action_at}
use Rattle.wc_syntax.specs.Tables.Parts.{is_between}
use Rattle.wc_symbols.specs.declared.symbol.Symbol.{Symbol}
use Rattle.wc_symbols.specs.Standard.Symbols.{bare}
use Rattle.wc_symbols.specs.Standard.Tokens.{TokenIs}
use Rattle.wc_surface.specs.declared.field.Field.{Field}
use Rattle.wc_parse_code.specs.declared.word.Word.{Word}
use Rattle.wc_parse_code.specs.Standard.Tokens.{kept_token}
use Rattle.wc_parse_field.specs.Drafting.Fields.{started}
use Rattle.wc_parse.specs.declared.text_draft.TextDraft.{TextDraft}
use Rattle.wc_parse.specs.Kept.Texts.{take_by}
use Rattle.wc_parse.specs.Kept.Folds.{StandsFor}

-- what a token is: its kind and value, its text, and what that stands for where it is a string
pub record Seen : Type 0 where
  pub symbol : Symbol
  pub text : List ℕ
  pub bytes : List ℕ

-- a token that is no string
abbrev pub seen : Symbol → List ℕ → Seen
seen symbol text = record { symbol = symbol; text = text; bytes = [] }

-- the next token is this
pub record IsSeen (u : Unread) (x : Seen) (v : Unread) : Type 0 where
  pub lexeme : Lexeme
  pub gives : Gives u lexeme v
  pub symbol : TokenIs lexeme.kind lexeme.text x.symbol
  pub text : x.text ≡ lexeme.text
  pub bytes : StandsFor lexeme.kind lexeme.text x.bytes

-- the next token is of this kind, which says all
abbrev pub IsBare : Unread → Kind → Unread → Type 0
IsBare u k v = (text : List ℕ) × IsSeen u (seen (bare k) text) v

-- a name that stands for these bytes
abbrev pub named : List ℕ → List ℕ → Seen
named text bytes = record { symbol = bare kind.Name; text = text; bytes = bytes }

-- the next token is such a name
abbrev pub IsNamed : Unread → List ℕ → Unread → Type 0
IsNamed u bytes v = (text : List ℕ) × IsSeen u (named text bytes) v

-- the next tokens are these
pub data AreSeen : Unread → List Seen → Unread → Type 0 where
  none : {u : Unread} → AreSeen u [] u
  more : {u v w : Unread} {x : Seen} {xs : List Seen} → IsSeen u x v → AreSeen v xs w → AreSeen u (x ∷ xs) w

-- the next tokens are a parenthesis and the word of this kind
pub record Begins (u : Unread) (k : Kind) (v : Unread) : Type 0 where
  pub inside : Unread
  pub opens : IsBare u kind.Open inside
  pub word : IsBare inside k v

-- a number or an identifier, by what it is to the lexer and to the grammar
pub data IsIndex : TokenKind → Kind → Type 0 where
  number : IsIndex token.Word kind.Natural32
  symbolic : IsIndex token.Id kind.Id

-- the next token is this number or identifier
pub record IsIndexed (u : Unread) (w : Word) (v : Unread) : Type 0 where
  pub kind : TokenKind
  pub index : IsIndex kind w.symbol.kind
  pub seen : IsSeen u (seen w.symbol w.text) v

-- an export may lend what this word says
abbrev pub is_lendable : Kind → Bool
is_lendable kind.FuncWord = true
is_lendable kind.TableWord = true
is_lendable kind.MemoryWord = true
is_lendable kind.GlobalWord = true
is_lendable _ = false

-- What an export lends, from the token of this number on: a parenthesis, the word, the index and two parentheses.
pub record IsLent (u : Unread) (n : ℕ) (k : Kind) (w : Word) (v : Unread) : Type 0 where
  pub inside : Unread
  pub told : Unread
  pub named : Unread
  pub closed : Unread
  pub opens : IsBare u kind.Open inside
  pub word : IsBare inside k told
  pub lendable : is_lendable k ≡ true
  pub token : w.token ≡ n + 2
  pub target : IsIndexed told w named
  pub first : IsBare named kind.Close closed
  pub second : IsBare closed kind.Close v

-- An import of a function up to its word: a parenthesis, `import`, two names, a parenthesis and `func`.
pub record IsAsked (u : Unread) («module» item : List ℕ) (v : Unread) : Type 0 where
  pub told : Unread
  pub from : Unread
  pub asked : Unread
  pub import : Begins u kind.ImportWord told
  pub first : IsNamed told «module» from
  pub second : IsNamed from item asked
  pub function : Begins asked kind.FuncWord v

-- Its type, from the token of this number on: a parenthesis, `type`, the index and three parentheses.
pub record IsTyped (u : Unread) (n : ℕ) (w : Word) (v : Unread) : Type 0 where
  pub typed : Unread
  pub named : Unread
  pub used : Unread
  pub closed : Unread
  pub ty : Begins u kind.TypeWord typed
  pub token : w.token ≡ n + 2
  pub target : IsIndexed typed w named
  pub first : IsBare named kind.Close used
  pub second : IsBare used kind.Close closed
  pub third : IsBare closed kind.Close v

-- what a token of this number adds that is kept so, or isn't
abbrev pub adds : Option Role → ℕ → Seen → TextDraft → TextDraft
adds None n x d = d
adds (Some r) n x d = take_by r (kept_token n x.symbol x.text) x.bytes d

-- `Runs xs n s d s' d'`: the tokens xs, from this number on, lead the reader from s to s', and the draft from d to d'
pub data Runs : List Seen → ℕ → Standing → TextDraft → Standing → TextDraft → Type 0 where
  ended : {n : ℕ} {s : Standing} {d : TextDraft} → Runs [] n s d s d
  goes : {x : Seen} {xs : List Seen} {n : ℕ} {s t : Standing} {d e : TextDraft} (m : ℕ) (a : Action) → m ≡ n + 1
      → action_at s x.symbol.kind ≡ Some a → Runs xs m (moved a.go s) (adds a.keep n x d) t e → Runs (x ∷ xs) n s d t e

-- the draft with one more field
abbrev pub with_whole : Field → TextDraft → TextDraft
with_whole f d = record d { fields = d.fields ++ f ∷ [] }

-- So many tokens, from this number on, are the field, wherever one may begin behind others.
pub record SaysWhole (u : Unread) (n : ℕ) (f : Field) (count : ℕ) (v : Unread) : Type 0 where
  pub xs : List Seen
  pub are_seen : AreSeen u xs v
  pub count_is : count ≡ length xs
  pub runs : (s : Standing) (d : TextDraft) → is_between s.place s.frame ≡ true → d.field ≡ started kind.OtherWord 0
      → Runs xs n s d s (with_whole f d)

-- `Passes u n s d v m d'`: tokens were read from the one of number n to that of number m, the reader stands where it
-- stood, and the draft has what they say
pub record Passes (u : Unread) (n : ℕ) (s : Standing) (d : TextDraft) (v : Unread) (m : ℕ) (d' : TextDraft)
    : Type 0 where
  pub xs : List Seen
  pub are_seen : AreSeen u xs v
  pub count_is : m ≡ n + length xs
  pub runs : Runs xs n s d s d'
