-- What the text of a token says of its value.
use Rattle.std.proofs.Common.{◌≡◌, ℕ, List, Option, Some, None, Bool, true, false, refl, sym, ap, ◌∙◌, subst, arith}
use Rattle.wc_tokens.specs.declared.token.TokenKind.{TokenKind}
use Rattle.wc_tokens.specs.declared.token.TokenKind.TheVariants as token
use Rattle.wc_tokens.specs.Standard.Numbers.{Signed, Unsigned, Plus, Minus, Literal, unsigned, FitsBits}
use Rattle.wc_ops.specs.declared.op.Op.{Op}
use Rattle.wc_ops.specs.declared.op.Op.TheVariants as op
use Rattle.wc_syntax.specs.declared.kind.Kind.{Kind}
use Rattle.wc_syntax.specs.declared.kind.Kind.TheVariants as kind
use Rattle.wc_symbols.specs.declared.symbol.Symbol.{Symbol}
use Rattle.wc_symbols.specs.Standard.Numbers.{below_32, below_64, above, of_32, of_64, beyond}
use Rattle.wc_symbols.specs.Standard.Numbers.{OffsetIs, offset_number, offset_range, offset_form}
use Rattle.wc_symbols.specs.Standard.Numbers.{AlignIs, align_power, align_no_power, align_range, align_form}
use Rattle.wc_symbols.specs.Standard.Names.{op_kind, keyword, KeywordIs, NameIs}
use Rattle.wc_symbols.specs.Standard.Words.{Says, WordIs}
use Rattle.wc_symbols.specs.Standard.Tokens.{TokenIs, StringIs}
use Rattle.wc_symbols.specs.Standard.Ranges.{FitsKind}
use Rattle.wc_symbols.proofs.RangeLemmas.{fits-WordIs, fits-StringIs}
use Rattle.wc_parse_code.specs.Standard.Tokens.{KeptToken}
use Rattle.wc_parse_code.specs.Standard.Productions.Kept.{IsSpoken}

-- the text is a literal of so many bits
abbrev pub IsLiteralText : ℕ → List ℕ → Type 0
IsLiteralText bits text = (l : Signed) × Literal text l × FitsBits bits l

-- the kind is that of a number that 32 bits hold
abbrev pub is_short : Kind → Bool
is_short kind.Natural32 = true
is_short kind.Signed32 = true
is_short _ = false

-- the kind is that of a number that 64 bits hold
abbrev pub is_wide : Kind → Bool
is_wide kind.Natural32 = true
is_wide kind.Signed32 = true
is_wide kind.Natural64 = true
is_wide kind.Signed64 = true
is_wide _ = false

no : false ≡ true → ⊥
no e = cc

nothing-some : {x : List ℕ} → ◌≡◌ {A = Option (List ℕ)} None (Some x) → ⊥
nothing-some e = cc

wider : (l : Signed) → FitsBits 32 l → FitsBits 64 l
wider (Unsigned n) f = omega (arith, f)
wider (Plus n) f = omega (arith, f)
wider (Minus n) f = omega (arith, f)

-- ---- other words

offset-short : {text : List ℕ} {s : Symbol} → OffsetIs text s → is_wide s.kind ≡ false
offset-short (offset_number d l) = refl
offset-short (offset_range d l) = refl
offset-short (offset_form f) = refl

align-short : {text : List ℕ} {s : Symbol} → AlignIs text s → is_wide s.kind ≡ false
align-short (align_power d e l) = refl
align-short (align_no_power d l e) = refl
align-short (align_range d l) = refl
align-short (align_form f) = refl

op-short : (o : Op) → is_wide (op_kind o) ≡ false
op-short (op.Simple o) = refl
op-short (op.Index o) = refl
op-short (op.Mem o) = refl
op-short op.BrTable = refl
op-short op.CallIndirect = refl
op-short op.I32Const = refl
op-short op.I64Const = refl
op-short op.Block = refl
op-short op.Loop = refl
op-short op.If = refl

keyword-short : (k : Kind) {text : List ℕ} → keyword k ≡ Some text → is_wide k ≡ false
keyword-short kind.Natural32 e = absurd (nothing-some e)
keyword-short kind.Signed32 e = absurd (nothing-some e)
keyword-short kind.Natural64 e = absurd (nothing-some e)
keyword-short kind.Signed64 e = absurd (nothing-some e)
keyword-short _ e = refl

name-short : {text : List ℕ} {s : Symbol} → NameIs text s → is_wide s.kind ≡ false
name-short (NameIs.keyword_is (KeywordIs.word k e)) = keyword-short k e
name-short (NameIs.keyword_is KeywordIs.i32) = refl
name-short (NameIs.keyword_is KeywordIs.i64) = refl
name-short (NameIs.keyword_is KeywordIs.f32) = refl
name-short (NameIs.keyword_is KeywordIs.f64) = refl
name-short (NameIs.instruction o e) = op-short o
name-short (NameIs.float e) = refl

string-short : {text : List ℕ} {s : Symbol} → StringIs text s → is_wide s.kind ≡ false
string-short (StringIs.name i u) = refl
string-short (StringIs.no_name i u) = refl

short-wide : (k : Kind) → is_short k ≡ true → is_wide k ≡ true
short-wide kind.Natural32 e = refl
short-wide kind.Signed32 e = refl
short-wide _ e = absurd (no e)

never : {b : Bool} {A : Type 0} → b ≡ false → b ≡ true → A
never e f = absurd (no (sym e ∙ f))

-- ---- literals

says-short : {text : List ℕ} {s : Symbol} → Says text s → is_short s.kind ≡ true → IsLiteralText 32 text
says-short (Says.natural (below_32 {n = n} d l)) e = (Unsigned n, unsigned d, l)
says-short (Says.natural (below_64 d l m)) e = absurd (no e)
says-short (Says.natural (above d l)) e = absurd (no e)
says-short (Says.signed (of_32 {l = l} d h f)) e = (l, d, f)
says-short (Says.signed (of_64 d h n f)) e = absurd (no e)
says-short (Says.signed (beyond d h n)) e = absurd (no e)
says-short {s = s} (Says.offset t o) e = never (offset-short o) (short-wide s.kind e)
says-short {s = s} (Says.align t a) e = never (align-short a) (short-wide s.kind e)
says-short {s = s} (Says.name n) e = never (name-short n) (short-wide s.kind e)

says-wide : {text : List ℕ} {s : Symbol} → Says text s → is_wide s.kind ≡ true → IsLiteralText 64 text
says-wide (Says.natural (below_32 {n = n} d l)) e = (Unsigned n, unsigned d, wider (Unsigned n) l)
says-wide (Says.natural (below_64 {n = n} d l m)) e = (Unsigned n, unsigned d, m)
says-wide (Says.natural (above d l)) e = absurd (no e)
says-wide (Says.signed (of_32 {l = l} d h f)) e = (l, d, wider l f)
says-wide (Says.signed (of_64 {l = l} d h n f)) e = (l, d, f)
says-wide (Says.signed (beyond d h n)) e = absurd (no e)
says-wide (Says.offset t o) e = never (offset-short o) e
says-wide (Says.align t a) e = never (align-short a) e
says-wide (Says.name n) e = never (name-short n) e

token-short : (form : TokenKind) (text : List ℕ) (s : Symbol) → TokenIs form text s → is_short s.kind ≡ true
    → IsLiteralText 32 text
token-short token.Open text s t e = never (ap (λ (s : Symbol). is_short s.kind) t) e
token-short token.Close text s t e = never (ap (λ (s : Symbol). is_short s.kind) t) e
token-short token.Id text s t e = never (ap (λ (s : Symbol). is_short s.kind) t) e
token-short token.Str text s t e = never (string-short t) (short-wide s.kind e)
token-short token.Word text s (WordIs.known t) e = says-short t e
token-short token.Word text s (WordIs.other n) e = absurd (no e)

token-wide : (form : TokenKind) (text : List ℕ) (s : Symbol) → TokenIs form text s → is_wide s.kind ≡ true
    → IsLiteralText 64 text
token-wide token.Open text s t e = never (ap (λ (s : Symbol). is_wide s.kind) t) e
token-wide token.Close text s t e = never (ap (λ (s : Symbol). is_wide s.kind) t) e
token-wide token.Id text s t e = never (ap (λ (s : Symbol). is_wide s.kind) t) e
token-wide token.Str text s t e = never (string-short t) e
token-wide token.Word text s (WordIs.known t) e = says-wide t e
token-wide token.Word text s (WordIs.other n) e = absurd (no e)

token-fits : (form : TokenKind) (text : List ℕ) (s : Symbol) → TokenIs form text s → FitsKind s.kind s.value
token-fits token.Open text s t = subst (λ (s : Symbol). FitsKind s.kind s.value) (sym t) refl
token-fits token.Close text s t = subst (λ (s : Symbol). FitsKind s.kind s.value) (sym t) refl
token-fits token.Id text s t = subst (λ (s : Symbol). FitsKind s.kind s.value) (sym t) refl
token-fits token.Str text s t = fits-StringIs t
token-fits token.Word text s t = fits-WordIs t

-- ---- of a kept token

pub spoken-fits : {w : KeptToken} → IsSpoken w → FitsKind w.symbol.kind w.symbol.value
spoken-fits {w = w} s = token-fits s.form w.text w.symbol s.says

pub spoken-short : {w : KeptToken} {k : Kind} → w.symbol.kind ≡ k → is_short k ≡ true → IsSpoken w
    → IsLiteralText 32 w.text
spoken-short {w = w} e short s = token-short s.form w.text w.symbol s.says (ap is_short e ∙ short)

pub spoken-wide : {w : KeptToken} {k : Kind} → w.symbol.kind ≡ k → is_wide k ≡ true → IsSpoken w
    → IsLiteralText 64 w.text
spoken-wide {w = w} e wide s = token-wide s.form w.text w.symbol s.says (ap is_wide e ∙ wide)
