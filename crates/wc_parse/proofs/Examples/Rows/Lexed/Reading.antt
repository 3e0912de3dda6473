-- What a text says by its tokens: that they are those of the text is tested.
use Rattle.std.proofs.Common.{◌≡◌, ◌≤◌, ℕ, suc, zero, Bool, true, false, ◌&&◌, not, List, [], ◌∷◌, ◌++◌, length, drop}
use Rattle.std.proofs.Common.{Option, Some, None, refl, ap}
use Rattle.std.specs.List.{AllByRecursion}
use Rattle.std.specs.Str.{IsAscii}
use Rattle.std.proofs.Math.Dec.{eqb, ltb}
use Rattle.std.proofs.lemmas.Bool.{eqb-true, eqb-false, ltb-true, false≢true}
use Rattle.std.proofs.lemmas.Str.{IsUtf8-from_ascii}
use Rattle.std.proofs.lemmas.Str.Ascii.{IsAscii-nil, IsAscii-cons}
use Rattle.wc_tokens.specs.declared.token.TokenKind.{TokenKind}
use Rattle.wc_tokens.specs.declared.token.TokenKind.TheVariants as token
use Rattle.wc_tokens.specs.Standard.Gaps.{Gaps}
use Rattle.wc_tokens.specs.Standard.Strings.{IsString}
use Rattle.wc_tokens.specs.Standard.Lexemes.{is_idchar, IsIdchar, kind_of_run, IsRun, HasForm, MayPrecede, Lexeme}
use Rattle.wc_tokens.specs.Standard.Lexemes.{Lexed, longest, Lexes}
use Rattle.wc_body.specs.Standard.Nested.{nesting_limit}
use Rattle.wc_syntax.specs.declared.role.Role.{Role}
use Rattle.wc_syntax.specs.Standard.Deriving.{Event}
use Rattle.wc_syntax.specs.Standard.Parsing.{IsText}
use Rattle.wc_symbols.specs.declared.symbol.Symbol.{Symbol}
use Rattle.wc_symbols.specs.Standard.Tokens.{StringIs, TokenIs}
use Rattle.wc_surface.specs.Standard.Written.Fields.{Field}
use Rattle.wc_parse_code.specs.Standard.Productions.Tokens.{Said}
use Rattle.wc_parse_field.specs.Standard.Productions.Fields.{AreFields}
use Rattle.wc_parse.specs.Standard.Kinds.{Each, HasKind}
use Rattle.wc_parse.specs.Standard.Productions.{IsKept, SaysFields}
use Rattle.wc_parse.proofs.Examples.Rows.Lexed.Tokens.{Token, Placed, text_of, lexemes, kinds_of, event, events_from}
use Rattle.wc_parse.proofs.Examples.Rows.Lexed.Tokens.{saying, said_from}

-- the text has tokens, which say these fields
pub record Reads (text : List ℕ) (fields : List Field) : Type 0 where
  pub tokens : List Lexeme
  pub lexes : Lexes text tokens
  pub says : SaysFields tokens fields

-- ---- what it takes for the tokens to be those of the text

-- every byte is one of a word
abbrev pub are_idchars : List ℕ → Bool
are_idchars [] = true
are_idchars (c ∷ text) = is_idchar c && are_idchars text

-- the kind of a run that is an identifier, or a word
abbrev pub is_kind : TokenKind → TokenKind → Bool
is_kind token.Id token.Id = true
is_kind token.Word token.Word = true
is_kind _ _ = false

-- a run of idchars of this kind
abbrev pub is_run : TokenKind → List ℕ → Bool
is_run k [] = false
is_run k (c ∷ text) = are_idchars (c ∷ text) && is_kind (kind_of_run (c ∷ text)) k

-- the text is this byte
abbrev pub is_byte : ℕ → List ℕ → Bool
is_byte b (c ∷ []) = eqb c b
is_byte b _ = false

-- the text has the form of its kind; that a string has it is known
abbrev pub is_formed : TokenKind → List ℕ → Bool
is_formed token.Open text = is_byte 40 text
is_formed token.Close text = is_byte 41 text
is_formed token.Str text = true
is_formed token.Id text = is_run token.Id text
is_formed token.Word text = is_run token.Word text

-- the token may stand in front of the rest
abbrev pub may_precede : TokenKind → List ℕ → Bool
may_precede token.Close rest = true
may_precede token.Str rest = true
may_precede k [] = true
may_precede token.Open (c ∷ rest) = not (eqb c 59)
may_precede k (c ∷ rest) = not (is_idchar c)

-- each token of the list has its form, and may stand where it does
abbrev pub are_tokens : List Placed → Bool
are_tokens [] = true
are_tokens (p ∷ ps) =
    is_formed p.word.form p.word.text && (may_precede p.word.form (text_of ps) && are_tokens ps)

-- every byte is ASCII
abbrev pub are_ascii : List ℕ → Bool
are_ascii [] = true
are_ascii (c ∷ text) = ltb c 128 && are_ascii text

-- the list is that of the tokens of its text
abbrev pub is_whole : List Placed → Bool
is_whole ps = are_tokens ps && are_ascii (text_of ps)

-- ---- then they are

both : (a b : Bool) → (a && b) ≡ true → (a ≡ true) × (b ≡ true)
both true b e = (refl, e)
both false b e = absurd (false≢true e)

denied : (a : Bool) → not a ≡ true → a ≡ false
denied true e = absurd (false≢true e)
denied false e = refl

ascii : (text : List ℕ) → are_ascii text ≡ true → IsAscii text
ascii [] e = IsAscii-nil
ascii (c ∷ text) e =
    let b = both (ltb c 128) (are_ascii text) e in IsAscii-cons c text (ltb-true c 128 b.0) (ascii text b.1)

idchars : (text : List ℕ) → are_idchars text ≡ true → AllByRecursion IsIdchar text
idchars [] e = tt
idchars (c ∷ text) e = let b = both (is_idchar c) (are_idchars text) e in (b.0, idchars text b.1)

kind-is : (k l : TokenKind) → is_kind k l ≡ true → k ≡ l
kind-is token.Id token.Id e = refl
kind-is token.Word token.Word e = refl
kind-is token.Open l e = absurd (false≢true e)
kind-is token.Close l e = absurd (false≢true e)
kind-is token.Str l e = absurd (false≢true e)
kind-is token.Id token.Open e = absurd (false≢true e)
kind-is token.Id token.Close e = absurd (false≢true e)
kind-is token.Id token.Str e = absurd (false≢true e)
kind-is token.Id token.Word e = absurd (false≢true e)
kind-is token.Word token.Open e = absurd (false≢true e)
kind-is token.Word token.Close e = absurd (false≢true e)
kind-is token.Word token.Str e = absurd (false≢true e)
kind-is token.Word token.Id e = absurd (false≢true e)

run-is : (k : TokenKind) (text : List ℕ) → is_run k text ≡ true → IsRun k text
run-is k [] e = absurd (false≢true e)
run-is k (c ∷ text) e =
    let b = both (are_idchars (c ∷ text)) (is_kind (kind_of_run (c ∷ text)) k) e in
    record { some = λ n. absurd cc; idchars = idchars (c ∷ text) b.0; kind_is = kind-is (kind_of_run (c ∷ text)) k b.1 }

byte-is : (b : ℕ) (text : List ℕ) → is_byte b text ≡ true → text ≡ b ∷ []
byte-is b [] e = absurd (false≢true e)
byte-is b (c ∷ []) e = ap (λ (x : ℕ). x ∷ []) (eqb-true c b e)
byte-is b (c ∷ d ∷ text) e = absurd (false≢true e)

string-is : {text : List ℕ} {s : Symbol} → StringIs text s → (bytes : List ℕ) × IsString text bytes
string-is (StringIs.name s u) = (_, s)
string-is (StringIs.no_name s u) = (_, s)

form-is : (k : TokenKind) (text : List ℕ) (s : Symbol) → TokenIs k text s → is_formed k text ≡ true → HasForm k text
form-is token.Open text s i e = byte-is 40 text e
form-is token.Close text s i e = byte-is 41 text e
form-is token.Str text s i e = string-is i
form-is token.Id text s i e = run-is token.Id text e
form-is token.Word text s i e = run-is token.Word text e

precedes : (k : TokenKind) (rest : List ℕ) → may_precede k rest ≡ true → MayPrecede k rest
precedes token.Close rest e = tt
precedes token.Str rest e = tt
precedes token.Open [] e = tt
precedes token.Id [] e = tt
precedes token.Word [] e = tt
precedes token.Open (c ∷ rest) e = eqb-false c 59 (denied (eqb c 59) e)
precedes token.Id (c ∷ rest) e = denied (is_idchar c) e
precedes token.Word (c ∷ rest) e = denied (is_idchar c) e

-- gaps in front of lexed text
spaced : {size : ℕ} {text rest : List ℕ} {ts : List Lexeme} → Gaps text rest → Lexed size rest ts → Lexed size text ts
spaced Gaps.none l = l
spaced (Gaps.more g gs) l = Lexed.gap g (spaced gs l)

lexed : (size : ℕ) (ps : List Placed) → are_tokens ps ≡ true → Lexed size (text_of ps) (lexemes size ps)
lexed size [] e = Lexed.ended
lexed size (p ∷ ps) e =
    let b = both (is_formed p.word.form p.word.text) (may_precede p.word.form (text_of ps) && are_tokens ps) e in
    let c = both (may_precede p.word.form (text_of ps)) (are_tokens ps) b.1 in
    spaced (p.front.gaps (p.word.text ++ text_of ps)) (Lexed.token
    (record {
      form = form-is p.word.form p.word.text p.word.symbol p.word.is b.0;
      apart = precedes p.word.form (text_of ps) c.0;
    }) (lexed size ps c.1))

-- ---- what each of them is

kinds : (size : ℕ) (ps : List Placed) → Each HasKind (lexemes size ps) (kinds_of ps)
kinds size [] = Each.none
kinds size (p ∷ ps) = Each.more (p.word.symbol, p.word.is, refl) (kinds size ps)

-- the rest behind the first of the rest
rest-of : (n : ℕ) (ts : List Lexeme) {t : Lexeme} {rest : List Lexeme} → drop n ts ≡ t ∷ rest → drop (suc n) ts ≡ rest
rest-of zero [] e = absurd cc
rest-of zero (x ∷ ts) e = cc
rest-of (suc n) [] e = absurd cc
rest-of (suc n) (x ∷ ts) e = rest-of n ts e

-- the token from one place to another
abbrev lexeme : Token → ℕ → ℕ → Lexeme
lexeme w start stop = record { kind = w.form; text = w.text; start = start; stop = stop }

-- the one of this number is kept as its role says, in front of these
kept-one : {ts rest : List Lexeme} {start stop : ℕ} {es : List Event} {us : List Said} (n : ℕ) (r : Option Role)
    (w : Token) → drop n ts ≡ lexeme w start stop ∷ rest → Each (IsKept ts) es us
    → Each (IsKept ts) (event r n w.symbol.kind es) (saying r n w us)
kept-one n None w e behind = behind
kept-one n (Some r) w e behind = Each.more (IsKept.stands e w.is refl) behind

-- what is kept of the tokens from this number on
kept-from : (size : ℕ) (ts : List Lexeme) (n : ℕ) (ps : List Placed) → drop n ts ≡ lexemes size ps
    → Each (IsKept ts) (events_from n ps) (said_from n ps)
kept-from size ts n [] e = Each.none
kept-from size ts n (p ∷ ps) e =
    kept-one n p.role p.word e (kept-from size ts (suc n) ps (rest-of n ts e))

-- The text of tokens that the grammar derives has the fields that their kept ones say.
pub reads : {fields : List Field} (ps : List Placed) → is_whole ps ≡ true → length (text_of ps) ≤ longest
    → IsText nesting_limit (kinds_of ps) (events_from 0 ps) → AreFields (said_from 0 ps) fields
    → Reads (text_of ps) fields
reads ps whole short derived said =
    let size = length (text_of ps) in
    let b = both (are_tokens ps) (are_ascii (text_of ps)) whole in
    record {
      tokens = lexemes size ps;
      lexes = record {
        short = short;
        utf8 = IsUtf8-from_ascii (text_of ps) (ascii (text_of ps) b.1);
        lexed = lexed size ps b.0;
      };
      says = record {
        kinds = kinds_of ps;
        are_kinds = kinds size ps;
        es = events_from 0 ps;
        text = derived;
        words = said_from 0 ps;
        are_kept = kept-from size (lexemes size ps) 0 ps refl;
        says = said;
      };
    }
