-- What stands at the front of a text, from what is read there.
use Rattle.std.proofs.Common.{◌≡◌, ◌≢◌, ℕ, ◌-◌, ◌<◌, ◌≤◌, true, false, List, [], ◌∷◌, ◌++◌, length, take, drop, get_or}
use Rattle.std.proofs.Common.{refl, sym, ap, subst, ◌∙◌, append_assoc, append-nil, length-append, ◌⊎◌, inl, inr, arith}
use Rattle.std.specs.List.{AllByRecursion}
use Rattle.std.proofs.lemmas.Bool.{cases_lt}
use Rattle.std.proofs.lemmas.List.{drop_more, drop_all, take_rest, take-append-drop}
use Rattle.wc_tokens.specs.declared.token.TokenKind.{TokenKind}
use Rattle.wc_tokens.specs.declared.token.TokenKind.TheVariants.{Open, Close, Id, Str, Word}
use Rattle.wc_tokens.specs.declared.fault.LexWhy.TheVariants.{Character, CommentOpen, StringOpen, Escape}
use Rattle.wc_tokens.specs.Standard.Gaps.{is_blank, BeginsNot, EndsLine, Inside, Gap, line, block, blank}
use Rattle.wc_tokens.specs.Standard.Strings.{EndsElements}
use Rattle.wc_tokens.specs.Standard.Lexemes.{is_idchar, kind_of_run, IsRun, IsToken}
use Rattle.wc_tokens.specs.Standard.Faults.{Stuck, character, comment_open, string_open, escape}
use Rattle.wc_tokens.specs.Reading.Heads.{LineEnds, RunEnds}
use Rattle.wc_tokens.proofs.Integers.Scans.{eq-false}

-- a token stands at the front of the text
abbrev pub BeginsToken : TokenKind → List ℕ → List ℕ → Type 0
BeginsToken kind text rest = (part : List ℕ) × (text ≡ part ++ rest) × IsToken kind part rest

-- ---- lines

pub LineEnds-at : (text : List ℕ) (at : ℕ) → AllByRecursion (λ c. c ≢ 10) (take at text)
    → (at < length text → get_or text at 0 ≡ 10) → LineEnds text (take (length text - at) (drop at text))
LineEnds-at text at no_feed feed = rw (take_rest text at) (record {
  line = take at text;
  text_is = sym (take-append-drop at text);
  no_feed = no_feed;
  ended = go (cases_lt at (length text));
})
  where
    go : (at < length text) ⊎ (length text ≤ at) → EndsLine (drop at text)
    go (inl l) = rw (drop_more text at 0 l) (feed l)
    go (inr l) = rw (drop_all at text l) tt

pub Gap-line : (text rest behind after : List ℕ) → text ≡ 59 ∷ rest → rest ≡ 59 ∷ behind → LineEnds behind after
    → Gap text after
Gap-line text rest behind after e f l =
    let whole : text ≡ 59 ∷ 59 ∷ (l.line ++ after) = cc (e, f, l.text_is) in
    subst (λ (t : List ℕ). Gap t after) (sym whole) (line l.line l.no_feed l.ended)

BeginsNot-from : (c : ℕ) (text : List ℕ) → ((rest : List ℕ) → text ≢ c ∷ rest) → BeginsNot c text
BeginsNot-from c [] n = tt
BeginsNot-from c (d ∷ text) n = λ e. n text (ap (λ (x : ℕ). x ∷ text) e)

semicolon-idchar : is_idchar 59 ≡ false
unfolding is_idchar
semicolon-idchar = refl

pub Stuck-semicolon : (text rest : List ℕ) → text ≡ 59 ∷ rest → ((behind : List ℕ) → rest ≢ 59 ∷ behind)
    → Stuck text text Character
Stuck-semicolon text rest e n = subst (λ (t : List ℕ). Stuck t t Character) (sym e) (character 59 (record {
  not_blank = refl;
  not_idchar = semicolon-idchar;
  no_parenthesis = (omega arith, omega arith);
  no_quote = omega arith;
  no_comment = λ _. BeginsNot-from 59 rest n;
}))

-- ---- parentheses and block comments

pub BeginsToken-open : (text rest : List ℕ) → text ≡ 40 ∷ rest → ((behind : List ℕ) → rest ≢ 59 ∷ behind)
    → BeginsToken Open text rest
BeginsToken-open text rest e n = (40 ∷ [], e, record { form = refl; apart = BeginsNot-from 59 rest n })

pub BeginsToken-close : (text rest : List ℕ) → text ≡ 41 ∷ rest → BeginsToken Close text rest
BeginsToken-close text rest e = (41 ∷ [], e, record { form = refl; apart = tt })

pub Gap-block : (text rest inside after : List ℕ) → text ≡ 40 ∷ rest → rest ≡ 59 ∷ inside
    → Inside inside (59 ∷ 41 ∷ after) → Gap text after
Gap-block text rest inside after e f i =
    let whole : text ≡ 40 ∷ 59 ∷ inside = cc (e, f) in
    subst (λ (t : List ℕ). Gap t after) (sym whole) (block i)

pub Stuck-block : (text rest inside : List ℕ) → text ≡ 40 ∷ rest → rest ≡ 59 ∷ inside
    → ((after : List ℕ) → ¬ (Inside inside (59 ∷ 41 ∷ after))) → Stuck text text CommentOpen
Stuck-block text rest inside e f n =
    let whole : text ≡ 40 ∷ 59 ∷ inside = cc (e, f) in
    subst (λ (t : List ℕ). Stuck t t CommentOpen) (sym whole) (comment_open n)

-- ---- strings

pub BeginsToken-string : (text rest end after : List ℕ) → text ≡ 34 ∷ rest → EndsElements rest end → end ≡ 34 ∷ after
    → BeginsToken Str text after
BeginsToken-string text rest end after e s f =
    let whole : rest ≡ (s.body ++ 34 ∷ []) ++ after =
    s.text_is ∙ ap (λ (t : List ℕ). s.body ++ t) f ∙ sym (append_assoc s.body (34 ∷ []) after) in (
      34 ∷ (s.body ++ 34 ∷ []),
      cc (e, whole),
      record {
        form = (s.bytes, record { body = s.body; text_is = refl; elements = s.elements });
        apart = tt;
      },
    )

pub Stuck-string : (text rest end : List ℕ) → text ≡ 34 ∷ rest → EndsElements rest end → length end ≡ 0
    → Stuck text text StringOpen
Stuck-string text rest [] e s l =
    let whole : text ≡ 34 ∷ s.body = cc (e, s.text_is ∙ append-nil s.body) in
    subst (λ (t : List ℕ). Stuck t t StringOpen) (sym whole) (string_open s.elements)
Stuck-string text rest (c ∷ end) e s l = absurd (omega arith)

pub Stuck-escape : (text rest end : List ℕ) → text ≡ 34 ∷ rest → EndsElements rest end → length end ≢ 0
    → ((after : List ℕ) → end ≢ 34 ∷ after) → Stuck text end Escape
Stuck-escape text rest [] e s l n = absurd (l refl)
Stuck-escape text rest (c ∷ end) e s l n =
    subst (λ (t : List ℕ). Stuck t (c ∷ end) Escape) (sym e) (escape c s (λ f. n end (ap (λ (x : ℕ). x ∷ end) f)))

-- ---- runs

pub idchar-dollar : is_idchar 36 ≡ true
unfolding is_idchar
idchar-dollar = refl

kind-id : (run : List ℕ) → 0 < length run → kind_of_run (36 ∷ run) ≡ Id
kind-id [] l = absurd (omega arith)
kind-id (d ∷ run) l = refl

kind-word : (c : ℕ) (run : List ℕ) → (c ≡ 36 → length run ≡ 0) → kind_of_run (c ∷ run) ≡ Word
kind-word c [] h = refl
kind-word c (d ∷ run) h = let e = eq-false c 36 (λ f. absurd (omega (arith, h f))) in rw e

pub BeginsToken-run : (kind : TokenKind) (text : List ℕ) (first : ℕ) (rest after : List ℕ) → text ≡ first ∷ rest
    → is_idchar first ≡ true → (r : RunEnds rest after) → kind_of_run (first ∷ r.run) ≡ kind
    → (run : List ℕ) × (text ≡ run ++ after) × IsRun kind run
BeginsToken-run kind text first rest after e i r k =
    (first ∷ r.run, cc (e, r.text_is), record { some = λ f. absurd cc; idchars = (i, r.idchars); kind_is = k })

pub BeginsToken-id : (text : List ℕ) (first : ℕ) (rest after : List ℕ) → text ≡ first ∷ rest → is_idchar first ≡ true
    → RunEnds rest after → first ≡ 36 → length after < length rest → BeginsToken Id text after
BeginsToken-id text first rest after e i r dollar l =
    let some : 0 < length r.run = omega (arith, l, ap length r.text_is, length-append r.run after) in
    let kind : kind_of_run (first ∷ r.run) ≡ Id = ap (λ (c : ℕ). kind_of_run (c ∷ r.run)) dollar ∙ kind-id r.run some in
    let b = BeginsToken-run Id text first rest after e i r kind in
    (b.0, b.1, record { form = b.2; apart = r.ended })

pub BeginsToken-word : (text : List ℕ) (first : ℕ) (rest after : List ℕ) → text ≡ first ∷ rest → is_idchar first ≡ true
    → RunEnds rest after → (first ≡ 36 → length rest ≤ length after) → BeginsToken Word text after
BeginsToken-word text first rest after e i r short =
    let alone : first ≡ 36
    → length r.run ≡ 0 = λ f. omega (arith, short f, ap length r.text_is, length-append r.run after) in
    let b = BeginsToken-run Word text first rest after e i r (kind-word first r.run alone) in
    (b.0, b.1, record { form = b.2; apart = r.ended })

-- ---- nothing

pub Gap-blank : (text : List ℕ) (first : ℕ) (rest : List ℕ) → text ≡ first ∷ rest → is_blank first ≡ true
    → Gap text rest
Gap-blank text first rest e b = subst (λ (t : List ℕ). Gap t rest) (sym e) (blank first b)

pub Stuck-character : (text : List ℕ) (first : ℕ) (rest : List ℕ) → text ≡ first ∷ rest → is_blank first ≡ false
    → is_idchar first ≡ false → first ≢ 40 → first ≢ 41 → first ≢ 34 → first ≢ 59 → Stuck text text Character
Stuck-character text first rest e b i o c q s =
    subst (λ (t : List ℕ). Stuck t t Character) (sym e) (character first (record {
      not_blank = b;
      not_idchar = i;
      no_parenthesis = (o, c);
      no_quote = q;
      no_comment = λ f. absurd (s f);
    }))
