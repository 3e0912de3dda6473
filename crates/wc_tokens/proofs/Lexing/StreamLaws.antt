-- The tokens of a text that is read one token after another.
use Rattle.std.proofs.Common.{◌≡◌, ℕ, zero, suc, ◌+◌, ◌-◌, ◌<◌, ◌≤◌, List, [], ◌∷◌, ◌++◌, length, drop, refl, sym, ap}
use Rattle.std.proofs.Common.{subst, ◌∙◌, append_assoc, append-nil, length-append, add-one, arith}
use Rattle.std.proofs.lemmas.List.{append_cancel_right}
use Rattle.wc_tokens.specs.declared.token.TokenKind.{TokenKind}
use Rattle.wc_tokens.specs.declared.fault.LexWhy.{LexWhy}
use Rattle.wc_tokens.specs.Standard.Gaps.{Gap, Gaps, none, more}
use Rattle.wc_tokens.specs.Standard.Lexemes.{HasForm, IsToken, Lexeme, spanned, Lexed, place, ended, gap, token}
use Rattle.wc_tokens.specs.Standard.Lexemes.{longest}
use Rattle.wc_tokens.specs.Standard.Faults.{Stuck, Stops}
use Rattle.wc_tokens.specs.Standard.Faults as faults
use Rattle.wc_tokens.specs.Standard.Streams.{Unread, unread, Gives}
use Rattle.wc_tokens.specs.Standard.Tokens.{InOrder}
use Rattle.wc_tokens.proofs.Decided.Exists.{at_end, a_gap, a_token, a_fault, outcome}
use Rattle.wc_tokens.proofs.Decided.Unique.{NoMore, Skip, Take, Halt, next, next-Gap, next-Token, next-Stuck}
use Rattle.wc_tokens.proofs.Decided.HeadLaws.{BeginsToken}
use Rattle.wc_tokens.proofs.Lexing.LexLaws.{Gap-shorter, token-some, same-spanned}
use Rattle.wc_tokens.specs.Reading.Stops.{EndsWith}
use Rattle.wc_tokens.proofs.Lexing.RunLaws.{Gaps-shorter, EndsWith-more, EndsWith-gaps}

abbrev pub lexeme : TokenKind → List ℕ → ℕ → ℕ → Lexeme
lexeme kind text start stop = record { kind = kind; text = text; start = start; stop = stop }

-- `UpTo size text ts`: these are the tokens of the text up to its end or to its first fault
pub data UpTo : ℕ → List ℕ → List Lexeme → Type 0 where
  nothing : {size : ℕ} → UpTo size [] []
  fault : {size : ℕ} {text rest : List ℕ} {why : LexWhy} → Stuck text rest why → UpTo size text []
  behind : {size : ℕ} {text rest : List ℕ} {ts : List Lexeme} → Gap text rest → UpTo size rest ts → UpTo size text ts
  begun : {size : ℕ} {kind : TokenKind} {text rest : List ℕ} {ts : List Lexeme} → IsToken kind text rest
      → UpTo size rest ts → UpTo size (text ++ rest) (spanned size kind text rest ∷ ts)

-- ---- each text has them

UpTo-go : (steps size : ℕ) (text : List ℕ) → length text ≤ steps → (ts : List Lexeme) × UpTo size text ts
UpTo-go zero size [] l = ([], nothing)
UpTo-go zero size (c ∷ text) l = absurd (omega arith)
UpTo-go (suc steps) size text l = elim (outcome text) [
  | at_end e ↦ ([], subst (λ (t : List ℕ). UpTo size t []) (sym e) nothing)
  | a_gap rest g ↦
      let w = UpTo-go steps size rest (omega (arith, l, Gap-shorter g)) in
      (w.0, behind g w.1)
  | a_token kind rest b ↦
      let w = UpTo-go steps size rest
      (omega (arith, l, ap length b.1, length-append b.0 rest, token-some kind b.0 rest b.2)) in
      let ts = spanned size kind b.0 rest ∷ w.0 in
      (ts, subst (λ (t : List ℕ). UpTo size t ts) (sym b.1) (begun b.2 w.1))
  | a_fault rest why s ↦ ([], fault s)
]

-- ---- they are taken one after another

UpTo-gap : {size : ℕ} {text other rest : List ℕ} {ts : List Lexeme} → UpTo size text ts → Gap other rest → text ≡ other
    → UpTo size rest ts
UpTo-gap {rest = b} nothing g e = let f : NoMore ≡ Skip b = ap next e ∙ next-Gap g in absurd cc
UpTo-gap {rest = b} (fault {rest = r} {why = w} s) g e =
    let f : Halt r w ≡ Skip b = sym (next-Stuck s) ∙ ap next e ∙ next-Gap g in absurd cc
UpTo-gap {size = size} {rest = b} {ts = ts} (behind {rest = a} h l) g e =
    let f : Skip a ≡ Skip b = sym (next-Gap h) ∙ ap next e ∙ next-Gap g in
    let same : a ≡ b = cc in
    subst (λ (t : List ℕ). UpTo size t ts) same l
UpTo-gap {rest = b} (begun {kind = kind} {text = text} {rest = rest} h l) g e =
    let f : Take kind rest ≡ Skip b = sym (next-Token kind text rest h) ∙ ap next e ∙ next-Gap g in absurd cc

UpTo-gaps : {size : ℕ} {text rest : List ℕ} {ts : List Lexeme} → UpTo size text ts → Gaps text rest → UpTo size rest ts
UpTo-gaps u none = u
UpTo-gaps u (more g h) = UpTo-gaps (UpTo-gap u g refl) h

-- the first of them is a token, and others follow
record IsFirst (size : ℕ) (kind : TokenKind) (text rest : List ℕ) (ts : List Lexeme) : Type 0 where
  others : List Lexeme
  are : ts ≡ spanned size kind text rest ∷ others
  left : UpTo size rest others

UpTo-token : {size : ℕ} {kind : TokenKind} {text part rest : List ℕ} {ts : List Lexeme} → UpTo size text ts
    → IsToken kind part rest → text ≡ part ++ rest → IsFirst size kind part rest ts
UpTo-token {kind = k} {part = p} {rest = b} nothing t e =
    let f : NoMore ≡ Take k b = ap next e ∙ next-Token k p b t in absurd cc
UpTo-token {kind = k} {part = p} {rest = b} (fault {rest = r} {why = w} s) t e =
    let f : Halt r w ≡ Take k b = sym (next-Stuck s) ∙ ap next e ∙ next-Token k p b t in absurd cc
UpTo-token {kind = k} {part = p} {rest = b} (behind {rest = a} h l) t e =
    let f : Skip a ≡ Take k b = sym (next-Gap h) ∙ ap next e ∙ next-Token k p b t in absurd cc
UpTo-token {size = size} {kind = k} {part = p} {rest = b}
    (begun {kind = k'} {text = p'} {rest = a} {ts = ts} h l) t e =
    let f : Take k' a ≡ Take k b = sym (next-Token k' p' a h) ∙ ap next e ∙ next-Token k p b t in
    let kind : k' ≡ k = cc in
    let rest : a ≡ b = cc in
    let text : p' ≡ p = append_cancel_right p' p a (e ∙ ap (λ (x : List ℕ). p ++ x) (sym rest)) in
    record {
      others = ts;
      are = ap (λ (x : Lexeme). x ∷ ts) (same-spanned size kind text rest);
      left = subst (λ (x : List ℕ). UpTo size x ts) rest l;
    }

UpTo-end : {size : ℕ} {text : List ℕ} {ts : List Lexeme} → UpTo size text ts → text ≡ [] → ts ≡ []
UpTo-end nothing e = refl
UpTo-end (fault s) e = refl
UpTo-end (behind {rest = a} h l) e = let f : Skip a ≡ NoMore = sym (next-Gap h) ∙ ap next e in absurd cc
UpTo-end (begun {kind = k} {text = p} {rest = a} h l) e =
    let f : Take k a ≡ NoMore = sym (next-Token k p a h) ∙ ap next e in absurd cc

-- where the text has tokens, they are these
UpTo-Lexed : {size : ℕ} {text : List ℕ} {ts us : List Lexeme} → UpTo size text ts → Lexed size text us → us ≡ ts
UpTo-Lexed u ended = sym (UpTo-end u refl)
UpTo-Lexed u (gap g l) = UpTo-Lexed (UpTo-gap u g refl) l
UpTo-Lexed u (token {size = size} {kind = kind} {text = text} {rest = rest} t l) =
    let w = UpTo-token u t refl in
    ap (λ (x : List Lexeme). spanned size kind text rest ∷ x) (UpTo-Lexed w.left l) ∙ sym w.are

UpTo-InOrder : {size : ℕ} {text : List ℕ} {ts : List Lexeme} → UpTo size text ts → size ≤ longest
    → length text ≤ size → (from : ℕ) → from ≤ size - length text → InOrder from ts
UpTo-InOrder nothing short within from l = tt
UpTo-InOrder (fault s) short within from l = tt
UpTo-InOrder (behind {rest = rest} g h) short within from l =
    UpTo-InOrder h short (omega (arith, within, Gap-shorter g)) from (omega (arith, l, Gap-shorter g))
UpTo-InOrder (begun {size = size} {kind = kind} {text = text} {rest = rest} t h) short within from l =
    let lengths = length-append text rest in (
      record { follows = l; spans = omega (arith, lengths, within); short = omega (arith, short); form = t.form },
      UpTo-InOrder h short (omega (arith, lengths, within)) (size - length rest) (omega arith),
    )

-- ---- gaps in front

Lexed-gaps : {size : ℕ} {text rest : List ℕ} {ts : List Lexeme} → Gaps text rest → Lexed size rest ts
    → Lexed size text ts
Lexed-gaps none l = l
Lexed-gaps (more g h) l = gap g (Lexed-gaps h l)

pub Stops-gaps : {size at : ℕ} {text rest : List ℕ} {why : LexWhy} → Gaps text rest → Stops size rest at why
    → Stops size text at why
Stops-gaps none s = s
Stops-gaps (more g h) s = faults.gap g (Stops-gaps h s)

pub Stops-behind : {size at : ℕ} {text here rest : List ℕ} {why reason : LexWhy} → Gaps text here → Stuck here rest why
    → at ≡ place size rest → reason ≡ why → Stops size text at reason
Stops-behind {size} {at} {text} {here} {rest} {why} {reason} g s e f =
    subst (λ (x : ℕ). Stops size text x reason) (sym e)
    (subst (Stops size text (place size rest)) (sym f) (Stops-gaps g (faults.stuck s)))

-- a token that is read is given
pub Gives-token : {size : ℕ} {from here behind : List ℕ} (kind : TokenKind) (text : List ℕ) (start stop : ℕ)
    → Gaps from here → (b : BeginsToken kind here behind) → text ≡ b.0 → start ≡ place size here
    → stop ≡ place size behind
    → Gives (record { size = size; rest = from }) (lexeme kind text start stop) (record { size = size; rest = behind })
Gives-token {size} {from} {here} {behind} kind text start stop g b t s p = record {
  kind = kind;
  text = b.0;
  gaps = subst (Gaps from) b.1 g;
  token = b.2;
  spans = ap (λ (x : List ℕ). lexeme kind x start stop) t
      ∙ ap (λ (x : ℕ). lexeme kind b.0 x stop) (s ∙ ap (place size) b.1)
      ∙ ap (λ (x : ℕ). lexeme kind b.0 (place size (b.0 ++ behind)) x) p;
  same_text = refl;
}

-- ---- a text of which so many tokens were read

-- These are the tokens of the text up to its end or to its first fault. Of them so many were read, and this is left.
pub record IsReading (text : List ℕ) (ts : List Lexeme) (at : ℕ) (u : Unread) : Type 0 where
  pub size_is : u.size ≡ length text
  pub in_order : InOrder 0 ts
  pub left : UpTo (length text) u.rest (drop at ts)
  pub lexes : Lexed (length text) u.rest (drop at ts) → Lexed (length text) text ts
  pub stops : (place : ℕ) (why : LexWhy) → Stops (length text) u.rest place why → Stops (length text) text place why

-- at the beginning
pub IsReading-start : (text : List ℕ) → length text ≤ longest → (ts : List Lexeme) × IsReading text ts 0 (unread text)
IsReading-start text short =
    let w = UpTo-go (length text) (length text) text (omega arith) in (
      w.0,
      record {
        size_is = refl;
        in_order = UpTo-InOrder w.1 short (omega arith) 0 (omega arith);
        left = w.1;
        lexes = λ l. l;
        stops = λ _ _ s. s;
      },
    )

drop-behind : (at : ℕ) (ts us : List Lexeme) (t : Lexeme) → drop at ts ≡ t ∷ us → drop (suc at) ts ≡ us
drop-behind zero [] us t e = absurd cc
drop-behind zero (x ∷ ts) us t e = cc
drop-behind (suc at) [] us t e = absurd cc
drop-behind (suc at) (x ∷ ts) us t e = drop-behind at ts us t e

-- one more token is read: it is the next one
pub record IsNextToken (text : List ℕ) (ts : List Lexeme) (at : ℕ) (t : Lexeme) (u : Unread) : Type 0 where
  pub stands : drop at ts ≡ t ∷ drop (at + 1) ts
  pub form : HasForm t.kind t.text
  pub reading : IsReading text ts (at + 1) u

pub IsReading-token : {text : List ℕ} {ts : List Lexeme} {at : ℕ} {u v : Unread} (t : Lexeme)
    → IsReading text ts at u → Gives u t v → IsNextToken text ts at t v
IsReading-token {text} {ts} {at} {u} {v} t r g =
    let size = length text in
    let f = UpTo-token (UpTo-gaps r.left g.gaps) g.token refl in
    let t_is : t ≡ spanned size g.kind g.text v.rest = g.spans
    ∙ ap (λ (s : ℕ). spanned s g.kind g.text v.rest) r.size_is in
    let first : drop at ts ≡ t ∷ f.others = f.are ∙ ap (λ (x : Lexeme). x ∷ f.others) (sym t_is) in
    let others : drop (at + 1) ts ≡ f.others = rw add-one (drop-behind at ts f.others t first) in
    record {
      stands = first ∙ ap (λ (x : List Lexeme). t ∷ x) (sym others);
      form = subst (λ (x : Lexeme). HasForm x.kind x.text) (sym t_is) g.token.form;
      reading = record {
        size_is = g.same_text ∙ r.size_is;
        in_order = r.in_order;
        left = subst (UpTo size v.rest) (sym others) f.left;
        lexes = λ l. r.lexes (subst (Lexed size u.rest) (sym f.are)
            (Lexed-gaps g.gaps (token g.token (subst (Lexed size v.rest) others l))));
        stops = λ place why s. r.stops place why (Stops-gaps g.gaps (faults.token g.token s));
      };
    }

-- what is left are gaps and tokens: the text has all these tokens
pub IsReading-rest : {text : List ℕ} {ts us : List Lexeme} {at : ℕ} {u : Unread} → IsReading text ts at u
    → Lexed u.size u.rest us → Lexed (length text) text ts
IsReading-rest {text} {ts} {us} {at} {u} r l =
    let whole = subst (λ (s : ℕ). Lexed s u.rest us) r.size_is l in
    r.lexes (subst (Lexed (length text) u.rest) (UpTo-Lexed r.left whole) whole)

-- only gaps are left: all the tokens were read, and the text has these
pub record IsReadWhole (text : List ℕ) (ts : List Lexeme) (at : ℕ) : Type 0 where
  pub all : drop at ts ≡ []
  pub lexed : Lexed (length text) text ts

pub IsReading-end : {text : List ℕ} {ts : List Lexeme} {at : ℕ} {u : Unread} → IsReading text ts at u → Gaps u.rest []
    → IsReadWhole text ts at
IsReading-end {text} {ts} {at} {u} r g =
    let none_left = UpTo-end (UpTo-gaps r.left g) refl in
    record {
      all = none_left;
      lexed = r.lexes (subst (Lexed (length text) u.rest) (sym none_left) (Lexed-gaps g ended));
    }

-- a fault of what is left is one of the text
pub IsReading-stop : {text : List ℕ} {ts : List Lexeme} {at : ℕ} {u : Unread} (place : ℕ) (why : LexWhy)
    → IsReading text ts at u → Stops u.size u.rest place why → Stops (length text) text place why
IsReading-stop {u = u} place why r s =
    r.stops place why (subst (λ (size : ℕ). Stops size u.rest place why) r.size_is s)

pub Gives-shorter : {u v : Unread} {t : Lexeme} → Gives u t v → length v.rest < length u.rest
Gives-shorter {u} {v} g =
    omega
    (arith, Gaps-shorter g.gaps, length-append g.text v.rest, token-some g.kind g.text v.rest g.token)

-- what is left behind a token is the end of what was left
pub Gives-ends : {u v : Unread} {t : Lexeme} → Gives u t v → EndsWith u.rest v.rest
Gives-ends {u} {v} g = EndsWith-more u.rest (g.text ++ v.rest) g.text v.rest (EndsWith-gaps ([], refl) g.gaps) refl

-- ---- texts whose tokens are not kept

-- gaps and tokens lead from the text to the rest, which decides what the whole is
pub record IsPassed (size : ℕ) (text rest : List ℕ) : Type 0 where
  pub lexes : (ts : List Lexeme) → Lexed size rest ts → (us : List Lexeme) × Lexed size text us
  pub stops : (place : ℕ) (why : LexWhy) → Stops size rest place why → Stops size text place why

pub IsPassed-token : {size : ℕ} {text rest here behind : List ℕ} (kind : TokenKind) → IsPassed size text rest
    → Gaps rest here → BeginsToken kind here behind → IsPassed size text behind
IsPassed-token {size} {text} {rest} {here} {behind} kind p g b = record {
  lexes = λ ts l.
      let us = spanned size kind b.0 behind ∷ ts in
      p.lexes us (Lexed-gaps g (subst (λ (t : List ℕ). Lexed size t us) (sym b.1) (token b.2 l)));
  stops = λ place why s.
      p.stops place why
      (Stops-gaps g (subst (λ (t : List ℕ). Stops size t place why) (sym b.1) (faults.token b.2 s)));
}

pub IsPassed-end : {size : ℕ} {text rest : List ℕ} → IsPassed size text rest → Gaps rest []
    → (ts : List Lexeme) × Lexed size text ts
IsPassed-end p g = p.lexes [] (Lexed-gaps g ended)

-- ---- texts whose tokens are kept

-- the tokens of the text that were read
pub record IsKept (text : List ℕ) (u : Unread) (kept : List Lexeme) : Type 0 where
  pub tokens : List Lexeme
  pub at : ℕ
  pub reading : IsReading text tokens at u
  pub joined : kept ++ drop at tokens ≡ tokens

pub IsKept-start : (text : List ℕ) (kept : List Lexeme) → length text ≤ longest → kept ≡ []
    → IsKept text (unread text) kept
IsKept-start text kept short e =
    let w = IsReading-start text short in
    record { tokens = w.0; at = 0; reading = w.1; joined = ap (λ (x : List Lexeme). x ++ w.0) e }

pub IsKept-token : {text : List ℕ} {u v : Unread} (kept : List Lexeme) (t : Lexeme) → IsKept text u kept → Gives u t v
    → IsKept text v (kept ++ t ∷ [])
IsKept-token {text} {u} {v} kept t k g =
    let n = IsReading-token t k.reading g in
    record {
      tokens = k.tokens;
      at = k.at + 1;
      reading = n.reading;
      joined = append_assoc kept (t ∷ []) (drop (k.at + 1) k.tokens)
          ∙ ap (λ (x : List Lexeme). kept ++ x) (sym n.stands) ∙ k.joined;
    }

all-kept : {text : List ℕ} {u : Unread} {kept : List Lexeme} (k : IsKept text u kept) → Gaps u.rest [] → kept ≡ k.tokens
all-kept {text} {u} {kept} k g =
    sym (append-nil kept) ∙ ap (λ (x : List Lexeme). kept ++ x) (sym (IsReading-end k.reading g).all) ∙ k.joined

pub IsKept-order : {text : List ℕ} {u : Unread} {kept : List Lexeme} → IsKept text u kept → Gaps u.rest []
    → InOrder 0 kept
IsKept-order {text} {u} {kept} k g = subst (InOrder 0) (sym (all-kept k g)) k.reading.in_order

pub IsKept-end : {text : List ℕ} {u : Unread} {kept : List Lexeme} → IsKept text u kept → Gaps u.rest []
    → Lexed (length text) text kept
IsKept-end {text} {u} {kept} k g =
    subst (Lexed (length text) text) (sym (all-kept k g)) (IsReading-end k.reading g).lexed
