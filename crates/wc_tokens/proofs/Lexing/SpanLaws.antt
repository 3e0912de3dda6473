-- Where a token stands in its text.
use Rattle.std.proofs.Common.{◌≡◌, ℕ, suc, ◌+◌, ◌-◌, ◌<◌, ◌≤◌, List, [], ◌∷◌, ◌++◌, length, take, drop, get_or}
use Rattle.std.proofs.Common.{IsUtf8, refl, sym, ap, subst, ◌∙◌, append_assoc, length-append, arith}
use Rattle.std.specs.List.{AllByRecursion}
use Rattle.std.specs.Str.{IsCharBoundary}
use Rattle.std.proofs.Math.Seq.{drop-append_seam, take-append_seam}
use Rattle.std.proofs.lemmas.Str.{IsUtf8-between}
use Rattle.std.proofs.lemmas.Bool.Decides.{nat_tests}
use Rattle.std.proofs.lemmas.List.{get_or_at}
use Rattle.std.proofs.lemmas.Str.{IsCharBoundary-before_ascii, IsCharBoundary-after_ascii}
use Rattle.wc_tokens.specs.declared.token.TokenKind.{TokenKind}
use Rattle.wc_tokens.specs.declared.token.TokenKind.TheVariants.{Open, Close, Id, Str, Word}
use Rattle.wc_tokens.specs.Standard.Lexemes.{is_idchar, IsIdchar, IsRun, HasForm, Lexeme, Lexed, ended, gap, token}
use Rattle.wc_tokens.specs.Standard.Lexemes.{longest}
use Rattle.wc_tokens.specs.Reading.Stops.{StandsIn}
use Rattle.wc_tokens.specs.Standard.Tokens.{InOrder}
use Rattle.wc_tokens.proofs.Lexing.LexLaws.{Gap-shorter}

idchar-ascii : (c : ℕ) → IsIdchar c → c < 128
unfolding is_idchar
idchar-ascii c i = grind (arith, nat_tests)

-- the first and the last byte of a token are ASCII
record HasEnds (text : List ℕ) : Type 0 where
  first : ℕ
  tail : List ℕ
  begins : text ≡ first ∷ tail
  first_ascii : first < 128
  front : List ℕ
  last : ℕ
  ends : text ≡ front ++ last ∷ []
  last_ascii : last < 128

run-last : (c : ℕ) (run : List ℕ) → AllByRecursion IsIdchar (c ∷ run)
    → (front : List ℕ) × (last : ℕ) × (c ∷ run ≡ front ++ last ∷ []) × (last < 128)
run-last c [] a = ([], c, refl, idchar-ascii c a.0)
run-last c (d ∷ run) a = let w = run-last d run a.1 in (c ∷ w.0, w.1, ap (λ (t : List ℕ). c ∷ t) w.2, w.3)

HasEnds-run : (kind : TokenKind) (text : List ℕ) → IsRun kind text → HasEnds text
HasEnds-run kind [] r = absurd (r.some refl)
HasEnds-run kind (c ∷ run) r =
    let w = run-last c run r.idchars in
    record {
      first = c;
      tail = run;
      begins = refl;
      first_ascii = idchar-ascii c r.idchars.0;
      front = w.0;
      last = w.1;
      ends = w.2;
      last_ascii = w.3;
    }

HasEnds-form : (kind : TokenKind) (text : List ℕ) → HasForm kind text → HasEnds text
HasEnds-form Open text f =
    record {
      first = 40;
      tail = [];
      begins = f;
      first_ascii = omega arith;
      front = [];
      last = 40;
      ends = f;
      last_ascii =
          omega arith;
    }
HasEnds-form Close text f =
    record {
      first = 41;
      tail = [];
      begins = f;
      first_ascii = omega arith;
      front = [];
      last = 41;
      ends = f;
      last_ascii =
          omega arith;
    }
HasEnds-form Id text f = HasEnds-run Id text f
HasEnds-form Str text f =
    record {
      first = 34;
      tail = f.1.body ++ 34 ∷ [];
      begins = f.1.text_is;
      first_ascii = omega arith;
      front = 34 ∷ f.1.body;
      last = 34;
      ends = f.1.text_is;
      last_ascii = omega arith;
    }
HasEnds-form Word text f = HasEnds-run Word text f

pub boundary-start : (text : List ℕ) (kind : TokenKind) (here rest : List ℕ) → StandsIn text kind here rest
    → IsCharBoundary text (length text - length here)
boundary-start text kind here rest s =
    let h = HasEnds-form kind s.part s.token.form in
    let whole : text ≡ s.front ++ h.first ∷ (h.tail ++ rest) = s.text_is
    ∙ ap (λ (t : List ℕ). s.front ++ t) (s.here_is ∙ ap (λ (t : List ℕ). t ++ rest) h.begins) in
    let at : length text - length here ≡ length s.front = omega
    (arith, ap length s.text_is, length-append s.front here) in
    let within : length s.front < length text = omega
    (arith, ap length whole, length-append s.front (h.first ∷ (h.tail ++ rest))) in
    let byte : get_or text (length s.front) 0 ≡ h.first = ap (λ (t : List ℕ). get_or t (length s.front) 0) whole
    ∙ get_or_at s.front h.first (h.tail ++ rest) 0 (length s.front) refl in
    let ascii : get_or text (length s.front) 0 < 128 = omega (arith, byte, h.first_ascii) in
    subst (IsCharBoundary text) (sym at) (IsCharBoundary-before_ascii text (length s.front) within ascii)

pub boundary-stop : (text : List ℕ) (kind : TokenKind) (here rest : List ℕ) → IsUtf8 text → StandsIn text kind here rest
    → IsCharBoundary text (length text - length rest)
boundary-stop text kind here rest u s =
    let h = HasEnds-form kind s.part s.token.form in
    let front = s.front ++ h.front in
    let behind : (h.front ++ h.last ∷ []) ++ rest ≡ h.front ++ h.last ∷ rest = append_assoc h.front
    (h.last ∷ []) rest in
    let whole : text ≡ front ++ h.last ∷ rest = s.text_is
    ∙ ap (λ (t : List ℕ). s.front ++ t) (s.here_is ∙ ap (λ (t : List ℕ). t ++ rest) h.ends ∙ behind)
    ∙ sym (append_assoc s.front h.front (h.last ∷ rest)) in
    let lengths : length text ≡ length front + suc (length rest) = ap length whole
    ∙ length-append front (h.last ∷ rest) in
    let at : length text - length rest ≡ length front + 1 = omega (arith, lengths) in
    let within : length front < length text = omega (arith, lengths) in
    let byte : get_or text (length front) 0 ≡ h.last = ap (λ (t : List ℕ). get_or t (length front) 0) whole
    ∙ get_or_at front h.last rest 0 (length front) refl in
    let ascii : get_or text (length front) 0 < 128 = omega (arith, byte, h.last_ascii) in
    subst (IsCharBoundary text) (sym at) (IsCharBoundary-after_ascii text (length front) u within ascii)

-- ---- spans lie in order

pub InOrder-Lexed : {size : ℕ} {text : List ℕ} {ts : List Lexeme} → Lexed size text ts → size ≤ longest
    → length text ≤ size → (from : ℕ) → from ≤ size - length text → InOrder from ts
InOrder-Lexed ended short within from l = tt
InOrder-Lexed (gap {rest = rest} g h) short within from l =
    InOrder-Lexed h short (omega (arith, within, Gap-shorter g)) from (omega (arith, l, Gap-shorter g))
InOrder-Lexed (token {size = size} {kind = kind} {text = text} {rest = rest} t h) short within from l =
    let lengths = length-append text rest in (
      record { follows = l; spans = omega (arith, lengths, within); short = omega (arith, short); form = t.form },
      InOrder-Lexed h short (omega (arith, lengths, within)) (size - length rest) (omega arith),
    )

-- so what stands between is UTF-8
pub part-utf8 : (text : List ℕ) (kind : TokenKind) (here rest : List ℕ) → IsUtf8 text → StandsIn text kind here rest
    → IsUtf8 (take (length here - length rest) here)
part-utf8 text kind here rest u s =
    let lengths = ap length s.text_is ∙ length-append s.front here in
    let parts = ap length s.here_is ∙ length-append s.part rest in
    let i = length text - length here in
    let j = length text - length rest in
    let at : i ≡ length s.front = omega (arith, lengths) in
    let behind : drop i text ≡ here = ap (λ (k : ℕ). drop k text) at ∙ ap (drop (length s.front)) s.text_is
    ∙ drop-append_seam s.front here in
    let count : j - i ≡ length here - length rest = omega (arith, lengths, parts) in
    subst (λ (t : List ℕ). IsUtf8 (take (length here - length rest) t)) behind
    (subst (λ (k : ℕ). IsUtf8 (take k (drop i text))) count
    (IsUtf8-between text i j u (omega (arith, lengths, parts)) (boundary-start text kind here rest s)
    (boundary-stop text kind here rest u s)))

-- and it is the token
pub part-whole : (text : List ℕ) (kind : TokenKind) (here rest : List ℕ) (s : StandsIn text kind here rest)
    → take (length here - length rest) here ≡ s.part
part-whole text kind here rest s =
    let count : length here - length rest ≡ length s.part =
    omega (arith, ap length s.here_is ∙ length-append s.part rest) in
    ap (λ (k : ℕ). take k here) count ∙ ap (take (length s.part)) s.here_is ∙ take-append_seam s.part rest
