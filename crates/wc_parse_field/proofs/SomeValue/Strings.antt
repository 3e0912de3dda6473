-- What the text of a string says.
use Rattle.std.proofs.Common.{◌≡◌, ℕ, List, Option, Some, None, Bool, true, false, refl, sym, ap, ◌∙◌, IsUtf8}
use Rattle.wc_tokens.specs.declared.token.TokenKind.{TokenKind}
use Rattle.wc_tokens.specs.declared.token.TokenKind.TheVariants as token
use Rattle.wc_tokens.specs.Standard.Strings.{IsString}
use Rattle.wc_ops.specs.declared.op.Op.{Op}
use Rattle.wc_ops.specs.declared.op.Op.TheVariants as op
use Rattle.wc_syntax.specs.declared.kind.Kind.{Kind}
use Rattle.wc_syntax.specs.declared.kind.Kind.TheVariants as kind
use Rattle.wc_symbols.specs.declared.symbol.Symbol.{Symbol}
use Rattle.wc_symbols.specs.Standard.Numbers.{below_32, below_64, above, of_32, of_64, beyond}
use Rattle.wc_symbols.specs.Standard.Numbers.{offset_number, offset_range, offset_form}
use Rattle.wc_symbols.specs.Standard.Numbers.{align_power, align_no_power, align_range, align_form}
use Rattle.wc_symbols.specs.Standard.Names.{op_kind, keyword, KeywordIs, NameIs}
use Rattle.wc_symbols.specs.Standard.Words.{Says, WordIs}
use Rattle.wc_symbols.specs.Standard.Tokens.{TokenIs, StringIs}
use Rattle.wc_parse_code.specs.Standard.Tokens.{KeptToken}
use Rattle.wc_parse_code.specs.Standard.Productions.Kept.{IsSpoken}
use Rattle.wc_parse_code.proofs.Storing.Ordered.Following.{is_string}
use Rattle.wc_parse_field.specs.Standard.Productions.Parts.{IsName}

-- the kind is that of a name
abbrev pub is_name : Kind → Bool
is_name kind.Name = true
is_name _ = false

no : false ≡ true → ⊥
no e = cc

nothing-some : {x : List ℕ} → ◌≡◌ {A = Option (List ℕ)} None (Some x) → ⊥
nothing-some e = cc

never : {b : Bool} {A : Type 0} → b ≡ false → b ≡ true → A
never e f = absurd (no (sym e ∙ f))

op-no-string : (o : Op) → is_string (op_kind o) ≡ false
op-no-string (op.Simple o) = refl
op-no-string (op.Index o) = refl
op-no-string (op.Mem o) = refl
op-no-string op.BrTable = refl
op-no-string op.CallIndirect = refl
op-no-string op.I32Const = refl
op-no-string op.I64Const = refl
op-no-string op.Block = refl
op-no-string op.Loop = refl
op-no-string op.If = refl

keyword-no-string : (k : Kind) {text : List ℕ} → keyword k ≡ Some text → is_string k ≡ false
keyword-no-string kind.Name e = absurd (nothing-some e)
keyword-no-string kind.Text e = absurd (nothing-some e)
keyword-no-string _ e = refl

word-no-string : {text : List ℕ} {s : Symbol} → Says text s → is_string s.kind ≡ false
word-no-string (Says.natural (below_32 d l)) = refl
word-no-string (Says.natural (below_64 d l m)) = refl
word-no-string (Says.natural (above d l)) = refl
word-no-string (Says.signed (of_32 d h f)) = refl
word-no-string (Says.signed (of_64 d h n f)) = refl
word-no-string (Says.signed (beyond d h n)) = refl
word-no-string (Says.offset t (offset_number d l)) = refl
word-no-string (Says.offset t (offset_range d l)) = refl
word-no-string (Says.offset t (offset_form f)) = refl
word-no-string (Says.align t (align_power d e l)) = refl
word-no-string (Says.align t (align_no_power d l e)) = refl
word-no-string (Says.align t (align_range d l)) = refl
word-no-string (Says.align t (align_form f)) = refl
word-no-string (Says.name (NameIs.keyword_is (KeywordIs.word k e))) = keyword-no-string k e
word-no-string (Says.name (NameIs.keyword_is KeywordIs.i32)) = refl
word-no-string (Says.name (NameIs.keyword_is KeywordIs.i64)) = refl
word-no-string (Says.name (NameIs.keyword_is KeywordIs.f32)) = refl
word-no-string (Says.name (NameIs.keyword_is KeywordIs.f64)) = refl
word-no-string (Says.name (NameIs.instruction o e)) = op-no-string o
word-no-string (Says.name (NameIs.float e)) = refl

string-says : {text : List ℕ} {s : Symbol} → StringIs text s → (bytes : List ℕ) × IsString text bytes
string-says (StringIs.name i u) = (_, i)
string-says (StringIs.no_name i u) = (_, i)

name-says : {text : List ℕ} {s : Symbol} → StringIs text s → is_name s.kind ≡ true
    → (bytes : List ℕ) × IsString text bytes × IsUtf8 bytes
name-says (StringIs.name i u) e = (_, i, u)
name-says (StringIs.no_name i u) e = absurd (no e)

token-string : (form : TokenKind) (text : List ℕ) (s : Symbol) → TokenIs form text s → is_string s.kind ≡ true
    → StringIs text s
token-string token.Open text s t e = never (ap (λ (s : Symbol). is_string s.kind) t) e
token-string token.Close text s t e = never (ap (λ (s : Symbol). is_string s.kind) t) e
token-string token.Id text s t e = never (ap (λ (s : Symbol). is_string s.kind) t) e
token-string token.Str text s t e = t
token-string token.Word text s (WordIs.known t) e = never (word-no-string t) e
token-string token.Word text s (WordIs.other n) e = absurd (no e)

-- it has the form of one
pub string-form : (form : TokenKind) (text : List ℕ) (s : Symbol) → TokenIs form text s → is_string s.kind ≡ true
    → form ≡ token.Str
string-form token.Open text s t e = never (ap (λ (s : Symbol). is_string s.kind) t) e
string-form token.Close text s t e = never (ap (λ (s : Symbol). is_string s.kind) t) e
string-form token.Id text s t e = never (ap (λ (s : Symbol). is_string s.kind) t) e
string-form token.Str text s t e = refl
string-form token.Word text s (WordIs.known t) e = never (word-no-string t) e
string-form token.Word text s (WordIs.other n) e = absurd (no e)

-- a string, as a kept token
pub spoken-string : {w : KeptToken} {k : Kind} → w.symbol.kind ≡ k → is_string k ≡ true → IsSpoken w
    → (bytes : List ℕ) × IsString w.text bytes
spoken-string {w = w} e t s =
    string-says (token-string s.form w.text w.symbol s.says (ap is_string e ∙ t))

-- a name, as a kept token
pub spoken-name : {w : KeptToken} → w.symbol.kind ≡ kind.Name → IsSpoken w → (name : List ℕ) × IsName w name
spoken-name {w = w} e s =
    let n = name-says (token-string s.form w.text w.symbol s.says (ap is_string e)) (ap is_name e) in
    (n.0, record { string = n.1; utf8 = n.2 })
