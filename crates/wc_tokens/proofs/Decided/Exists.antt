-- At the front of each text stands its end, a gap, a token or a fault.
use Rattle.std.proofs.Common.{◌≡◌, ◌≢◌, ℕ, zero, suc, ◌≤◌, true, List, [], ◌∷◌, ◌++◌, length, Option, Some, None, refl}
use Rattle.std.proofs.Common.{ap, ◌⊎◌, inl, inr, arith}
use Rattle.std.proofs.lemmas.Bool.{cases_lt, cases_eq, cases_Bool}
use Rattle.wc_tokens.specs.declared.token.TokenKind.{TokenKind}
use Rattle.wc_tokens.specs.declared.token.TokenKind.TheVariants.{Open, Close, Id, Str, Word}
use Rattle.wc_tokens.specs.declared.fault.LexWhy.{LexWhy}
use Rattle.wc_tokens.specs.declared.fault.LexWhy.TheVariants.{Character, CommentOpen, StringOpen, Escape}
use Rattle.wc_tokens.proofs.Comments.AfterComments.{after_comments}
use Rattle.wc_tokens.specs.Standard.Gaps.{is_blank, Gap}
use Rattle.wc_tokens.specs.Standard.Strings.{Elements, none, EndsElements}
use Rattle.wc_tokens.specs.Reading.Elements.{FirstElement, ValueAndRest, read_element}
use Rattle.wc_tokens.specs.Standard.Lexemes.{is_idchar}
use Rattle.wc_tokens.specs.Standard.Faults.{Stuck}
use Rattle.wc_tokens.specs.Reading.Heads.{LineEnds, RunEnds}
use Rattle.wc_tokens.proofs.Comments.CommentLaws.{Inside-closed, not-closed}
use Rattle.wc_tokens.proofs.Escapes.ElementLaws.{EndsElements-step, EndsElements-end, read_element-shorter}
use Rattle.wc_tokens.proofs.Decided.HeadLaws.{BeginsToken, Gap-line, Stuck-semicolon, BeginsToken-open}
use Rattle.wc_tokens.proofs.Decided.HeadLaws.{BeginsToken-close}
use Rattle.wc_tokens.proofs.Decided.HeadLaws.{Gap-block, Stuck-block, BeginsToken-string, Stuck-string, Stuck-escape}
use Rattle.wc_tokens.proofs.Decided.HeadLaws.{BeginsToken-id, BeginsToken-word, Gap-blank, Stuck-character}

-- what stands at the front of a text
pub data Outcome : List ℕ → Type 0 where
  at_end : {text : List ℕ} → text ≡ [] → Outcome text
  a_gap : {text : List ℕ} (rest : List ℕ) → Gap text rest → Outcome text
  a_token : {text : List ℕ} (kind : TokenKind) (rest : List ℕ) → BeginsToken kind text rest → Outcome text
  a_fault : {text : List ℕ} (rest : List ℕ) (why : LexWhy) → Stuck text rest why → Outcome text

-- ---- lines, runs and elements end

line-ends : (text : List ℕ) → (rest : List ℕ) × LineEnds text rest
line-ends [] = ([], record { line = []; text_is = refl; no_feed = tt; ended = tt })
line-ends (c ∷ text) = elim (cases_eq c 10) [
  | inl e ↦ (c ∷ text, record { line = []; text_is = refl; no_feed = tt; ended = e })
  | inr e ↦ let w = line-ends text in (
    w.0,
    record {
      line = c ∷ w.1.line;
      text_is = ap (λ (t : List ℕ). c ∷ t) w.1.text_is;
      no_feed = (e, w.1.no_feed);
      ended = w.1.ended;
    },
  )
]

run-ends : (text : List ℕ) → (rest : List ℕ) × RunEnds text rest
run-ends [] = ([], record { run = []; text_is = refl; idchars = tt; ended = tt })
run-ends (c ∷ text) = elim (cases_Bool (is_idchar c)) [
  | inl e ↦ let w = run-ends text in (
    w.0,
    record {
      run = c ∷ w.1.run;
      text_is = ap (λ (t : List ℕ). c ∷ t) w.1.text_is;
      idchars = (e, w.1.idchars);
      ended = w.1.ended;
    },
  )
  | inr e ↦ (c ∷ text, record { run = []; text_is = refl; idchars = tt; ended = e })
]

-- an element stands at the front, or none does
element-or-not : (text : List ℕ)
    → (read_element text ≡ None) ⊎ ((value rest : List ℕ) × (read_element text ≡ Some (ValueAndRest value rest)))
element-or-not text = go (read_element text) refl
  where
    go : (r : Option FirstElement) → read_element text ≡ r
        → (read_element text ≡ None) ⊎ ((value rest : List ℕ) × (read_element text ≡ Some (ValueAndRest value rest)))
    go None e = inl e
    go (Some (ValueAndRest value rest)) e = inr (value, rest, e)

elements-go : (steps : ℕ) (text rest : List ℕ) → length rest ≤ steps
    → ((body bytes : List ℕ) × (text ≡ body ++ rest) × Elements body bytes) → (end : List ℕ) × EndsElements text end
elements-go zero text rest l before = elim (element-or-not rest) [
  | inl e ↦ (rest, EndsElements-end text rest before refl e)
  | inr w ↦ absurd (omega (arith, l, read_element-shorter rest w.0 w.1 w.2))
]
elements-go (suc steps) text rest l before = elim (element-or-not rest) [
  | inl e ↦ (rest, EndsElements-end text rest before refl e)
  | inr w ↦ elements-go steps text w.1 (omega (
    arith,
    l,
    read_element-shorter rest w.0 w.1 w.2,
  )) (EndsElements-step text rest w.0 w.1 before refl w.2)
]

pub elements-end : (text : List ℕ) → (end : List ℕ) × EndsElements text end
elements-end text = elements-go (length text) text text (omega arith) ([], [], refl, none)

-- ---- the cases of the first byte

-- whether the text begins with this byte
first-is : (c : ℕ) (text : List ℕ) → ((rest : List ℕ) × (text ≡ c ∷ rest)) ⊎ ((rest : List ℕ) → text ≢ c ∷ rest)
first-is c [] = inr (λ rest e. absurd cc)
first-is c (d ∷ text) = elim (cases_eq d c) [
  | inl e ↦ inl (text, ap (λ (x : ℕ). x ∷ text) e)
  | inr n ↦ inr (λ rest e. n cc)
]

after-run : (c : ℕ) (text : List ℕ) → is_idchar c ≡ true → Outcome (c ∷ text)
after-run c text i =
    let w = run-ends text in
    elim (cases_eq c 36) [
      | inl e ↦ elim (cases_lt (length w.0) (length text)) [
        | inl l ↦ a_token Id w.0 (BeginsToken-id (c ∷ text) c text w.0 refl i w.1 e l)
        | inr l ↦ a_token Word w.0 (BeginsToken-word (c ∷ text) c text w.0 refl i w.1 (λ _. l))
      ]
      | inr n ↦ a_token Word w.0 (BeginsToken-word (c ∷ text) c text w.0 refl i w.1 (λ e. absurd (n e)))
    ]

after-open : (c : ℕ) (text : List ℕ) → c ≡ 40 → Outcome (c ∷ text)
after-open c text e = elim (first-is 59 text) [
  | inl w ↦ go (after_comments w.0 0) refl w.1
  | inr n ↦ a_token Open text (BeginsToken-open (c ∷ text) text (ap (λ (x : ℕ). x ∷ text) e) n)
]
  where
    go : {inside : List ℕ} (r : Option (List ℕ)) → after_comments inside 0 ≡ r → text ≡ 59 ∷ inside → Outcome (c ∷ text)
    go {inside} (Some after) f s =
        a_gap after
        (Gap-block (c ∷ text) text inside after (ap (λ (x : ℕ). x ∷ text) e) s (Inside-closed inside after f))
    go {inside} None f s =
        a_fault (c ∷ text) CommentOpen
        (Stuck-block (c ∷ text) text inside (ap (λ (x : ℕ). x ∷ text) e) s (not-closed inside f))

after-semicolon : (c : ℕ) (text : List ℕ) → c ≡ 59 → Outcome (c ∷ text)
after-semicolon c text e = elim (first-is 59 text) [
  | inl w ↦ let l = line-ends w.0 in a_gap l.0 (Gap-line (c ∷ text) text w.0 l.0 (ap (λ (x : ℕ). x ∷ text) e) w.1 l.1)
  | inr n ↦ a_fault (c ∷ text) Character (Stuck-semicolon (c ∷ text) text (ap (λ (x : ℕ). x ∷ text) e) n)
]

after-quote : (c : ℕ) (text : List ℕ) → c ≡ 34 → Outcome (c ∷ text)
after-quote c text e = go (elements-end text).0 (elements-end text).1
  where
    start : c ∷ text ≡ 34 ∷ text
    start = ap (λ (x : ℕ). x ∷ text) e

    go : (end : List ℕ) → EndsElements text end → Outcome (c ∷ text)
    go [] s = a_fault (c ∷ text) StringOpen (Stuck-string (c ∷ text) text [] start s refl)
    go (d ∷ end) s = elim (first-is 34 (d ∷ end)) [
      | inl w ↦ a_token Str w.0 (BeginsToken-string (c ∷ text) text (d ∷ end) w.0 start s w.1)
      | inr n ↦ a_fault (d ∷ end) Escape (Stuck-escape (c ∷ text) text (d ∷ end) start s (omega arith) n)
    ]

pub outcome : (text : List ℕ) → Outcome text
outcome [] = at_end refl
outcome (c ∷ text) = elim (cases_Bool (is_idchar c)) [
  | inl i ↦ after-run c text i
  | inr i ↦ elim (cases_Bool (is_blank c)) [
    | inl b ↦ a_gap text (Gap-blank (c ∷ text) c text refl b)
    | inr b ↦ elim (cases_eq c 40) [
      | inl e ↦ after-open c text e
      | inr o ↦ elim (cases_eq c 41) [
        | inl e ↦ a_token Close text (BeginsToken-close (c ∷ text) text (ap (λ (x : ℕ). x ∷ text) e))
        | inr p ↦ elim (cases_eq c 34) [
          | inl e ↦ after-quote c text e
          | inr q ↦ elim (cases_eq c 59) [
            | inl e ↦ after-semicolon c text e
            | inr s ↦ a_fault (c ∷ text) Character (Stuck-character (c ∷ text) c text refl b i o p q s)
          ]
        ]
      ]
    ]
  ]
]
