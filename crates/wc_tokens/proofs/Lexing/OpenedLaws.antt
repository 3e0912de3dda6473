-- Parentheses that come at once.
use Rattle.std.proofs.Common.{◌≡◌, ℕ, true, false, List, [], ◌∷◌, ◌++◌, Option, Some, None, IfSome, MatchOption}
use Rattle.std.proofs.Common.{refl, sym, ◌∙◌, subst}
use denote.Bor.{Bor}
use Rattle.wc_tokens.specs.declared.token.TokenKind.TheVariants.{Open, Close, Word}
use Rattle.wc_tokens.specs.Standard.Gaps.{Inside, Gaps, none, BeginsNot}
use Rattle.wc_tokens.specs.Standard.Lexemes.{is_idchar, IsRun, spanned}
use Rattle.wc_tokens.specs.Standard.Streams.{GivesOpened, GivesClosed}
use Rattle.wc_tokens.specs.Reading.Openings.{IsOpened, IsClosed}
use Rattle.wc_tokens.specs.declared.opened.OpenedWord.{OpenedWord}
use Rattle.wc_tokens.proofs.Decided.HeadLaws.{Gap-block}
use Rattle.wc_tokens.proofs.Lexing.RunLaws.{Gaps-push}
use Rattle.wc_tokens.proofs.Lexing.SpaceLaws.{Gaps-join}

semicolon-apart : is_idchar 59 ≡ false
unfolding is_idchar
semicolon-apart = refl

-- a word begins no comment
word-apart : (word rest : List ℕ) → IsRun Word word → BeginsNot 59 (word ++ rest)
word-apart [] rest r = absurd (r.some refl)
word-apart (c ∷ word) rest r = λ e.
    let i : is_idchar 59 ≡ true = subst (λ (x : ℕ). is_idchar x ≡ true) e r.idchars.0 in
    let clash : true ≡ false = sym i ∙ semicolon-apart in
    absurd cc

pub opened-given : {size : ℕ} {from word : List ℕ} (o : OpenedWord) → IsOpened from word o
    → GivesOpened (record { size = size; rest = from }) word (record { size = size; rest = o.rest.now })
opened-given {size} {from} {word} o e =
    let rest = o.rest.now in
    let inside = o.inside.now in
    record {
      inside = record { size = size; rest = inside };
      parenthesis = spanned size Open (40 ∷ []) inside;
      name = spanned size Word word rest;
      opens = record {
        kind = Open;
        text = 40 ∷ [];
        gaps = subst (Gaps from) e.opens e.gaps;
        token = record { form = refl; apart = subst (BeginsNot 59) (sym e.inside_is) (word-apart word rest e.run) };
        spans = refl;
        same_text = refl;
      };
      open_is = refl;
      names = record {
        kind = Word;
        text = word;
        gaps = subst (Gaps inside) e.inside_is none;
        token = record { form = e.run; apart = e.ended };
        spans = refl;
        same_text = refl;
      };
      name_is = refl;
      text_is = refl;
    }

pub closed-given : {size : ℕ} {from rest : List ℕ} → IsClosed from rest
    → GivesClosed (record { size = size; rest = from }) (record { size = size; rest = rest })
closed-given {size} {from} {rest} e = record {
  lexeme = spanned size Close (41 ∷ []) rest;
  gives = record {
    kind = Close;
    text = 41 ∷ [];
    gaps = subst (Gaps from) e.closes e.gaps;
    token = record { form = refl; apart = tt };
    spans = refl;
    same_text = refl;
  };
  kind = refl;
}

-- what is opened behind gaps
pub opened-behind : {text behind : List ℕ} (word : List ℕ) → Gaps text behind → (o : Option OpenedWord)
    → IfSome o (IsOpened behind word) → IfSome o (IsOpened text word)
opened-behind word g None h = tt
opened-behind word g (Some o) h =
    record { gaps = Gaps-join g h.gaps; opens = h.opens; inside_is = h.inside_is; run = h.run; ended = h.ended }

-- a comment that begins behind gaps, once it is closed
pub comment-passed : (text here rest inside : List ℕ) (o : Option (Bor (List ℕ))) → Gaps text here → here ≡ 40 ∷ rest
    → rest ≡ 59 ∷ inside
    → MatchOption o ((after : List ℕ) → ¬ (Inside inside (59 ∷ 41 ∷ after))) (λ b. Inside inside (59 ∷ 41 ∷ b.now))
    → IfSome o (λ b. Gaps text b.now)
comment-passed text here rest inside None g e f h = tt
comment-passed text here rest inside (Some b) g e f h =
    Gaps-push g (Gap-block here rest inside b.now e f h)
