-- Tokens in order: each is some kind, and all are within the longest text.
use Rattle.std.proofs.Common.{◌≡◌, ℕ, zero, suc, ◌+◌, ◌<◌, ◌≤◌, ◌^◌, List, [], ◌∷◌, length, drop, get_or, refl}
use Rattle.std.proofs.Common.{arith}
use Rattle.std.specs.Prelude.{sum_by}
use Rattle.std.proofs.lemmas.List.{length-map}
use Rattle.std.proofs.lemmas.List.Sums.{sum_by-cons}
use Rattle.wc_tokens.specs.declared.token.Token.{Token}
use Rattle.wc_tokens.specs.declared.token.TokenKind.{TokenKind}
use Rattle.wc_tokens.specs.declared.token.TokenKind.TheVariants as token
use Rattle.wc_tokens.specs.Standard.Lexemes.{Lexeme, HasForm, longest}
use Rattle.wc_tokens.specs.Standard.Tokens.{InOrder, lexeme_of, lexemes_of}
use Rattle.wc_syntax.specs.declared.kind.Kind.{Kind}
use Rattle.wc_symbols.proofs.SomeValue.SomeSymbols.{some-symbol}
use Rattle.wc_symbols.proofs.RangeLemmas.{TokenIs-same}
use Rattle.wc_parse.proofs.Pairs.{each-same}
use Rattle.wc_parse.specs.Standard.Kinds.{Each, none, more, HasKind}

-- tokens in order have kinds
pub some-kinds : (from : ℕ) (ts : List Lexeme) → InOrder from ts → (ks : List Kind) × Each HasKind ts ks
some-kinds from [] o = ([], none)
some-kinds from (t ∷ ts) o =
    let s = some-symbol t.kind t.text o.0.form in
    let w = some-kinds t.stop ts o.1 in
    (s.0.kind ∷ w.0, more (s.0, s.1, refl) w.1)

-- and each has one
one-kind : (t : Lexeme) (k l : Kind) → HasKind t k → HasKind t l → k ≡ l
one-kind t k l (s, g, e) (o, h, f) = let same : s ≡ o = TokenIs-same t.kind t.text s o g h in cc

pub one-kinds : {ts : List Lexeme} {ks ls : List Kind} → Each HasKind ts ks → Each HasKind ts ls → ks ≡ ls
one-kinds a b = each-same one-kind a b

-- the length of a token's text
abbrev pub text_size : Lexeme → ℕ
text_size t = length t.text

pub some-text : (k : TokenKind) (text : List ℕ) → HasForm k text → 0 < length text
some-text k [] h = absurd (empty k h)
  where
    empty : (k : TokenKind) → HasForm k [] → ⊥
    empty token.Open h = cc
    empty token.Close h = cc
    empty token.Id h = h.some refl
    empty token.Str h = let e = h.1.text_is in cc
    empty token.Word h = h.some refl
some-text k (c ∷ text) h = omega arith

pub within : (from : ℕ) (ts : List Lexeme) → InOrder from ts → from ≤ longest → from + sum_by text_size ts ≤ longest
within from [] o l = omega arith
within from (t ∷ ts) o l =
    let r = within t.stop ts o.1 o.0.short in
    let a = o.0.follows in
    let b = o.0.spans in
    omega (arith, sum_by-cons text_size t ts)

pub fewer : (from : ℕ) (ts : List Lexeme) → InOrder from ts → length ts ≤ sum_by text_size ts
fewer from [] o = omega arith
fewer from (t ∷ ts) o = omega (arith, sum_by-cons text_size t ts, fewer t.stop ts o.1, some-text t.kind t.text o.0.form)

-- the number of a token fits 32 bits
pub few : (ts : List Lexeme) → InOrder 0 ts → length ts ≤ longest
few ts o = omega (arith, within 0 ts o (omega arith), fewer 0 ts o)

pub few-tokens : (ts : List Lexeme) → InOrder 0 ts → length ts ≤ 2 ^ 32
few-tokens ts o = omega (arith, few ts o)

-- the tokens from a place on
pub lexemes-at : (ts : List Token) (i : ℕ) (d : Token) → i < length ts
    → drop i (lexemes_of ts) ≡ lexeme_of (get_or ts i d) ∷ drop (suc i) (lexemes_of ts)
lexemes-at [] i d l = absurd (omega arith)
lexemes-at (t ∷ ts) zero d l = refl
lexemes-at (t ∷ ts) (suc i) d l = lexemes-at ts i d (omega arith)

-- a token's number fits 32 bits
pub few-at : (ts : List Token) (i : ℕ) → InOrder 0 (lexemes_of ts) → i < length ts → i < 4294967296
few-at ts i o l = omega (arith, few (lexemes_of ts) o, length-map ts lexeme_of)

pub all-lexemes : (ts : List Token) (i : ℕ) → i ≤ length ts → length ts ≤ i → i ≡ length (lexemes_of ts)
all-lexemes ts i l m = omega (arith, length-map ts lexeme_of)
