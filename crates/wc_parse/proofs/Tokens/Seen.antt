-- Tokens that are seen ahead.
use Rattle.std.proofs.Common.{◌≡◌, ℕ, List, [], Option, Some, None, OnSome, refl, IsUtf8}
use Rattle.wc_tokens.specs.declared.token.TokenKind.{TokenKind}
use Rattle.wc_tokens.specs.declared.token.TokenKind.TheVariants as token
use Rattle.wc_tokens.specs.Standard.Lexemes.{Lexeme, HasForm}
use Rattle.wc_tokens.specs.Standard.Strings.{IsString}
use Rattle.wc_tokens.specs.Standard.Streams.{Unread, Gives, GivesPlain, GivesOpened, GivesClosed}
use Rattle.wc_syntax.specs.declared.kind.Kind.{Kind}
use Rattle.wc_syntax.specs.declared.kind.Kind.TheVariants as kind
use Rattle.wc_symbols.specs.declared.symbol.Symbol.{Symbol}
use Rattle.wc_symbols.specs.Standard.Symbols.{bare}
use Rattle.wc_symbols.specs.Standard.Tokens.{TokenIs, StringIs, name, no_name}
use Rattle.wc_parse.specs.Kept.Folds.{StandsFor}
use Rattle.wc_parse.specs.Kept.Passing.{seen, IsSeen, IsBare, Begins, IsNamed, IsIndex, number, symbolic}
use Rattle.wc_symbols.specs.Standard.Words.{WordIs}
use Rattle.wc_parse.proofs.Tokens.StringTokens.{string-token, string-stands}

pub gives-form : {u v : Unread} {t : Lexeme} → Gives u t v → HasForm t.kind t.text
gives-form g = rw g.spans g.token.form

name-is : (text : List ℕ) (s : Symbol) → StringIs text s → s.kind ≡ kind.Name → StringIs text (bare kind.Name)
name-is text _ (name i u) e = name i u
name-is text _ (no_name i u) e = absurd cc

pub is-name : {text : List ℕ} {s : Symbol} → StringIs text s → s.kind ≡ kind.Name → StringIs text (bare kind.Name)
is-name {text} {s} h e = name-is text s h e

pub name-seen : {u v : Unread} (t : Lexeme) (bytes : List ℕ) → Gives u t v → t.kind ≡ token.Str → IsString t.text bytes
    → StringIs t.text (bare kind.Name) → IsNamed u bytes v
name-seen t bytes g k i n = (
  t.text,
  record {
    lexeme = t;
    gives = g;
    symbol = string-token t.kind t.text (bare kind.Name) k n;
    text = refl;
    bytes = string-stands t.kind t.text bytes k i;
  },
)

no-bytes : (t : TokenKind) (k : Kind) (text : List ℕ) → IsIndex t k → StandsFor t text []
no-bytes _ _ text number = refl
no-bytes _ _ text symbolic = refl

pub index-seen : {u v : Unread} (t : Lexeme) (s : Symbol) → Gives u t v → TokenIs t.kind t.text s
    → IsIndex t.kind s.kind → IsSeen u (seen s t.text) v
index-seen t s g h i =
    record { lexeme = t; gives = g; symbol = h; text = refl; bytes = no-bytes t.kind s.kind t.text i }

pub word-index : (t : TokenKind) (k : Kind) → t ≡ token.Word → k ≡ kind.Natural32 → IsIndex t k
word-index t k e f = rw (e, f) number

pub id-index : (t : TokenKind) → t ≡ token.Id → IsIndex t kind.Id
id-index t e = rw e symbolic

pub plain-seen : {u v : Unread} {part : List ℕ} (bytes : List ℕ) → GivesPlain u part v → IsUtf8 part → bytes ≡ part
    → IsNamed u bytes v
plain-seen bytes g u e = rw e (name-seen g.lexeme _ g.gives g.kind g.string (name g.string u))

pub opened-begins : {u v : Unread} {word : List ℕ} (k : Kind) → GivesOpened u word v → WordIs word (bare k) → Begins u k v
opened-begins k g w = record {
  inside = g.inside;
  opens = (
    g.parenthesis.text,
    record {
      lexeme = g.parenthesis;
      gives = g.opens;
      symbol = rw g.open_is refl;
      text = refl;
      bytes = rw g.open_is refl;
    },
  );
  word = (
    g.name.text,
    record {
      lexeme = g.name;
      gives = g.names;
      symbol = rw (g.name_is, g.text_is) w;
      text = refl;
      bytes = rw g.name_is refl;
    },
  );
}

pub opened-found : (u v : Unread) {word : List ℕ} {k : Kind} (o : Option (Unit {0})) → OnSome o (GivesOpened u word v)
    → WordIs word (bare k) → OnSome o (Begins u k v)
opened-found u v None h w = tt
opened-found u v {k = k} (Some x) h w = opened-begins k h w

pub closed-bare : (u v : Unread) (o : Option (Unit {0})) → OnSome o (GivesClosed u v) → OnSome o (IsBare u kind.Close v)
closed-bare u v None h = tt
closed-bare u v (Some x) h = (
  h.lexeme.text,
  record { lexeme = h.lexeme; gives = h.gives; symbol = rw h.kind refl; text = refl; bytes = rw h.kind refl },
)
