-- At most one thing stands at the front of a text: each is read by a function.
use Rattle.std.proofs.Common.{◌≡◌, ◌≢◌, ℕ, nat_eq, ◌==◌, true, false, List, [], ◌∷◌, ◌++◌, Option, Some, None, refl}
use Rattle.std.proofs.Common.{sym, ap, ◌∙◌, append_assoc, append-nil, inl, inr, arith, if◌then◌else◌}
use Rattle.std.specs.List.{AllByRecursion}
use Rattle.std.proofs.lemmas.Bool.{cases_eq}
use Rattle.std.proofs.lemmas.Bool.Decides.{nat_tests}
use Rattle.wc_tokens.specs.declared.token.TokenKind.{TokenKind}
use Rattle.wc_tokens.specs.declared.token.TokenKind.TheVariants.{Open, Close, Id, Str, Word}
use Rattle.wc_tokens.specs.declared.fault.LexWhy.{LexWhy}
use Rattle.wc_tokens.specs.declared.fault.LexWhy.TheVariants.{Character, CommentOpen, StringOpen, Escape}
use Rattle.wc_tokens.proofs.Comments.AfterComments.{after_comments}
use Rattle.wc_tokens.specs.Standard.Gaps.{is_blank, BeginsNot, EndsLine, Inside, Gap, blank, line, block}
use Rattle.wc_tokens.specs.Standard.Strings.{Elements, EndsElements, IsString}
use Rattle.wc_tokens.specs.Standard.Lexemes.{is_idchar, IsIdchar, BeginsNoIdchar, kind_of_run, IsRun, IsToken}
use Rattle.wc_tokens.specs.Standard.Faults.{BeginsNothing, Stuck, character, comment_open, string_open, escape}
use Rattle.wc_tokens.proofs.Integers.Scans.{eq-false}
use Rattle.wc_tokens.proofs.Comments.CommentLaws.{after-closed, Inside-closed}
use Rattle.wc_tokens.proofs.Escapes.ElementLaws.{Elements-same, NoElement-read, read_element-none, read_element-quote}
use Rattle.wc_tokens.proofs.Escapes.ElementLaws.{read_element-nil}
use Rattle.wc_tokens.proofs.Decided.Exists.{elements-end}

eq-true : (a b : ℕ) → a ≡ b → nat_eq a b ≡ true
eq-true a b h = grind (arith, nat_tests)

-- what is read at the front of a text
pub data Next : Type 0 where
  NoMore : Next
  Skip : (rest : List ℕ) → Next
  Take : (kind : TokenKind) (rest : List ℕ) → Next
  Halt : (rest : List ℕ) (why : LexWhy) → Next

-- ---- the functions

abbrev after_line : List ℕ → List ℕ
after_line [] = []
after_line (c ∷ text) = if c == 10 then c ∷ text else after_line text

abbrev run_of : List ℕ → List ℕ
run_of [] = []
run_of (c ∷ text) = if is_idchar c then c ∷ run_of text else []

abbrev after_run : List ℕ → List ℕ
after_run [] = []
after_run (c ∷ text) = if is_idchar c then after_run text else c ∷ text

abbrev next_comment : List ℕ → Option (List ℕ) → Next
next_comment text (Some rest) = Skip rest
next_comment text None = Halt text CommentOpen

abbrev next_open : List ℕ → List ℕ → Next
next_open text [] = Take Open []
next_open text (d ∷ rest) = if d == 59 then next_comment text (after_comments rest 0) else Take Open (d ∷ rest)

abbrev next_semicolon : List ℕ → List ℕ → Next
next_semicolon text [] = Halt text Character
next_semicolon text (d ∷ rest) = if d == 59 then Skip (after_line rest) else Halt text Character

abbrev next_quote : List ℕ → List ℕ → Next
next_quote text [] = Halt text StringOpen
next_quote text (d ∷ rest) = if d == 34 then Take Str rest else Halt (d ∷ rest) Escape

abbrev next_other : ℕ → List ℕ → Next
next_other c text =
    if c == 40 then next_open (c ∷ text) text
    else (if c == 41 then Take Close text
    else (if c == 59 then next_semicolon (c ∷ text) text
    else (if c == 34 then next_quote (c ∷ text) (elements-end text).0
    else Halt (c ∷ text) Character)))

abbrev pub next : List ℕ → Next
next [] = NoMore
next (c ∷ text) =
    if is_idchar c then Take (kind_of_run (c ∷ run_of text)) (after_run text)
    else (if is_blank c then Skip text else next_other c text)

-- ---- what they read

after_line-is : (characters rest : List ℕ) → AllByRecursion (λ c. c ≢ 10) characters → EndsLine rest
    → after_line (characters ++ rest) ≡ rest
after_line-is [] [] a e = refl
after_line-is [] (c ∷ rest) a e = let f = eq-true c 10 e in rw f
after_line-is (c ∷ characters) rest a e = let f = eq-false c 10 a.0 in rw f (after_line-is characters rest a.1 e)

run_of-is : (run rest : List ℕ) → AllByRecursion IsIdchar run → BeginsNoIdchar rest → run_of (run ++ rest) ≡ run
run_of-is [] [] a e = refl
run_of-is [] (c ∷ rest) a e = rw e
run_of-is (c ∷ run) rest a e = let f = a.0 in rw f (ap (λ (t : List ℕ). c ∷ t) (run_of-is run rest a.1 e))

after_run-is : (run rest : List ℕ) → AllByRecursion IsIdchar run → BeginsNoIdchar rest → after_run (run ++ rest) ≡ rest
after_run-is [] [] a e = refl
after_run-is [] (c ∷ rest) a e = rw e
after_run-is (c ∷ run) rest a e = let f = a.0 in rw f (after_run-is run rest a.1 e)

elements-end-is : (text rest : List ℕ) → EndsElements text rest → (elements-end text).0 ≡ rest
elements-end-is text rest s =
    let w = elements-end text in
    (Elements-same w.0 rest w.1.elements s.elements (sym w.1.text_is
    ∙ s.text_is) (read_element-none w.0 w.1.ended) (read_element-none rest s.ended)).rest_is

-- the bytes that begin other things are no idchars
no-idchar : (is_idchar 32 ≡ false) × (is_idchar 9 ≡ false) × (is_idchar 10 ≡ false) × (is_idchar 13 ≡ false) ×
    (is_idchar 40 ≡ false) × (is_idchar 41 ≡ false) × (is_idchar 59 ≡ false) × (is_idchar 34 ≡ false)
unfolding is_idchar
no-idchar = (refl, refl, refl, refl, refl, refl, refl, refl)

blank-idchar : (c : ℕ) → is_blank c ≡ true → is_idchar c ≡ false
blank-idchar c b = elim (cases_eq c 32) [
  | inl e ↦ ap is_idchar e ∙ no-idchar.0
  | inr m ↦ elim (cases_eq c 9) [
    | inl e ↦ ap is_idchar e ∙ no-idchar.1
    | inr n ↦ elim (cases_eq c 10) [
      | inl e ↦ ap is_idchar e ∙ no-idchar.2
      | inr o ↦ elim (cases_eq c 13) [
        | inl e ↦ ap is_idchar e ∙ no-idchar.3
        | inr p ↦ let f : false ≡ true = rw (eq-false c 32 m, eq-false c 9 n, eq-false c 10 o, eq-false c 13 p) at b in
            absurd cc
      ]
    ]
  ]
]

pub next-Gap : {text rest : List ℕ} → Gap text rest → next text ≡ Skip rest
next-Gap (blank c b) = let i = blank-idchar c b in rw (i, b)
next-Gap (line characters {rest = rest} a e) = let i = no-idchar.6 in rw i (ap Skip (after_line-is characters rest a e))
next-Gap (block {inside = inside} {rest = rest} i) =
    let j = no-idchar.4 in let f = after-closed inside rest i in rw (j, f)

next-run : (kind : TokenKind) (text rest : List ℕ) → IsRun kind text → BeginsNoIdchar rest
    → next (text ++ rest) ≡ Take kind rest
next-run kind [] rest r e = absurd (r.some refl)
next-run kind (c ∷ run) rest r e =
    let i = r.idchars.0 in
    let f = run_of-is run rest r.idchars.1 e in
    let g = after_run-is run rest r.idchars.1 e in
    rw (i, f, g, r.kind_is)

next-quote : (body bytes rest : List ℕ) → Elements body bytes → next (34 ∷ (body ++ 34 ∷ rest)) ≡ Take Str rest
next-quote body bytes rest es =
    let i = no-idchar.7 in
    let e = elements-end-is (body ++ 34 ∷ rest) (34 ∷ rest)
    (record {
      body = body;
      bytes = bytes;
      text_is = refl;
      elements = es;
      ended = NoElement-read (34 ∷ rest) (read_element-quote rest);
    }) in
    rw (i, e)

next-string : (text bytes rest : List ℕ) → IsString text bytes → next (text ++ rest) ≡ Take Str rest
next-string text bytes rest s =
    let whole : text ++ rest ≡ 34 ∷ (s.body ++ 34 ∷ rest) = ap (λ (t : List ℕ). t ++ rest) s.text_is
    ∙ ap (λ (t : List ℕ). 34 ∷ t) (append_assoc s.body (34 ∷ []) rest) in
    ap next whole ∙ next-quote s.body bytes rest s.elements

next-open-token : (rest : List ℕ) → BeginsNot 59 rest → next (40 ∷ rest) ≡ Take Open rest
next-open-token [] b = let i = no-idchar.4 in rw i
next-open-token (d ∷ rest) b = let i = no-idchar.4 in let f = eq-false d 59 b in rw (i, f)

pub next-Token : (kind : TokenKind) (text rest : List ℕ) → IsToken kind text rest → next (text ++ rest) ≡ Take kind rest
next-Token Open text rest t = ap (λ (p : List ℕ). next (p ++ rest)) t.form ∙ next-open-token rest t.apart
next-Token Close text rest t = ap (λ (p : List ℕ). next (p ++ rest)) t.form ∙ (let i = no-idchar.5 in rw i)
next-Token Id text rest t = next-run Id text rest t.form t.apart
next-Token Str text rest t = next-string text t.form.0 rest t.form.1
next-Token Word text rest t = next-run Word text rest t.form t.apart

unclosed : (inside : List ℕ) → ((rest : List ℕ) → ¬ (Inside inside (59 ∷ 41 ∷ rest))) → after_comments inside 0 ≡ None
unclosed inside n = go (after_comments inside 0) refl
  where
    go : (r : Option (List ℕ)) → after_comments inside 0 ≡ r → after_comments inside 0 ≡ None
    go None e = e
    go (Some rest) e = absurd (n rest (Inside-closed inside rest e))

next-character : (c : ℕ) (text : List ℕ) → BeginsNothing c text → next (c ∷ text) ≡ Halt (c ∷ text) Character
next-character c text b =
    let i = b.not_idchar in
    let k = b.not_blank in
    let o = eq-false c 40 b.no_parenthesis.0 in
    let p = eq-false c 41 b.no_parenthesis.1 in
    let q = eq-false c 34 b.no_quote in
    rw (i, k, o, p) (elim (cases_eq c 59) [
      | inl s ↦ let f = eq-true c 59 s in rw f (go text (b.no_comment s))
      | inr s ↦ let f = eq-false c 59 s in rw (f, q)
    ])
  where
    go : (text' : List ℕ) → BeginsNot 59 text' → next_semicolon (c ∷ text) text' ≡ Halt (c ∷ text) Character
    go [] n = refl
    go (d ∷ text') n = let f = eq-false d 59 n in rw f

pub next-Stuck : {text rest : List ℕ} {why : LexWhy} → Stuck text rest why → next text ≡ Halt rest why
next-Stuck (character c {text = text} b) = next-character c text b
next-Stuck (comment_open {inside = inside} n) = let i = no-idchar.4 in let f = unclosed inside n in rw (i, f)
next-Stuck (string_open {body = body} {bytes = bytes} es) =
    let i = no-idchar.7 in
    let e = elements-end-is body []
    (record {
      body = body;
      bytes = bytes;
      text_is = sym (append-nil body);
      elements = es;
      ended = NoElement-read [] read_element-nil;
    }) in
    rw (i, e)
next-Stuck (escape c {text = text} {rest = rest} s n) =
    let i = no-idchar.7 in
    let e = elements-end-is text (c ∷ rest) s in
    let f = eq-false c 34 n in
    rw (i, e, f)
