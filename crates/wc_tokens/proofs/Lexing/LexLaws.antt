-- Each text has one list of tokens or one first fault, and not both.
use Rattle.std.proofs.Common.{◌≡◌, ◌≢◌, ℕ, zero, suc, ◌<◌, ◌≤◌, List, [], ◌∷◌, ◌++◌, length, refl, sym, ap, subst, ◌∙◌}
use Rattle.std.proofs.Common.{length-append, ◌⊎◌, inl, inr, arith}
use Rattle.std.proofs.lemmas.Bool.{cases_lt}
use Rattle.std.proofs.lemmas.List.{append_cancel_right}
use Rattle.wc_tokens.specs.declared.token.TokenKind.{TokenKind}
use Rattle.wc_tokens.specs.declared.token.TokenKind.TheVariants.{Open, Close, Id, Str, Word}
use Rattle.wc_tokens.specs.declared.fault.LexWhy.{LexWhy}
use Rattle.wc_tokens.specs.declared.fault.LexWhy.TheVariants.{NotUtf8, TooLong}
use Rattle.wc_tokens.specs.Standard.Gaps.{Inside, nothing, other, semicolon, parenthesis, comment, Gap, blank, line}
use Rattle.wc_tokens.specs.Standard.Gaps.{block}
use Rattle.wc_tokens.specs.Standard.Lexemes.{IsToken, Lexeme, place, spanned, Lexed, ended, gap, token, Lexes, longest}
use Rattle.wc_tokens.specs.Standard.Faults.{Stuck, Stops, stuck, FirstFault, too_long, not_utf8, lexical}
use Rattle.wc_tokens.specs.Standard.Faults as faults
use Rattle.wc_tokens.proofs.Decided.Exists.{at_end, a_gap, a_token, a_fault, outcome}
use Rattle.wc_tokens.proofs.Decided.Unique.{NoMore, Skip, Take, Halt, next, next-Gap, next-Token, next-Stuck}
use Rattle.wc_tokens.proofs.Lexing.Utf8Laws.{IsUtf8-or-front, IsValidUpTo-same, not-IsUtf8}

pub same-spanned : (size : ℕ) {k k' : TokenKind} {t t' r r' : List ℕ} → k ≡ k' → t ≡ t' → r ≡ r'
    → spanned size k t r ≡ spanned size k' t' r'
same-spanned size {k} {k'} {t} {t'} {r} {r'} a b c =
    ap (λ (x : TokenKind). spanned size x t r) a ∙ ap (λ (x : List ℕ). spanned size k' x r) b
    ∙ ap (λ (x : List ℕ). spanned size k' t' x) c

-- ---- at most one

pub Lexed-same : {size : ℕ} {text other : List ℕ} {ts us : List Lexeme} → Lexed size text ts → Lexed size other us
    → text ≡ other → ts ≡ us
Lexed-same ended ended e = refl
Lexed-same ended (gap h l) e = let f : NoMore ≡ Skip _ = ap next e ∙ next-Gap h in absurd cc
Lexed-same ended (token {kind = kind} {text = text} {rest = rest} h l) e =
    let f : NoMore ≡ Take kind rest = ap next e ∙ next-Token kind text rest h in absurd cc
Lexed-same (gap h l) ended e = let f : Skip _ ≡ NoMore = sym (next-Gap h) ∙ ap next e in absurd cc
Lexed-same (gap {rest = a} h l) (gap {rest = b} k m) e =
    let f : Skip a ≡ Skip b = sym (next-Gap h) ∙ ap next e ∙ next-Gap k in
    let same : a ≡ b = cc in
    Lexed-same l m same
Lexed-same (gap {rest = a} h l) (token {kind = kind} {text = text} {rest = rest} k m) e =
    let f : Skip a ≡ Take kind rest = sym (next-Gap h) ∙ ap next e ∙ next-Token kind text rest k in absurd cc
Lexed-same (token {kind = kind} {text = text} {rest = rest} h l) ended e =
    let f : Take kind rest ≡ NoMore = sym (next-Token kind text rest h) ∙ ap next e in absurd cc
Lexed-same (token {kind = kind} {text = text} {rest = rest} h l) (gap {rest = b} k m) e =
    let f : Take kind rest ≡ Skip b = sym (next-Token kind text rest h) ∙ ap next e ∙ next-Gap k in absurd cc
Lexed-same (token {size = size} {kind = k} {text = t} {rest = r} {ts = ts} h l)
    (token {kind = k'} {text = t'} {rest = r'} {ts = us} h' l') e =
    let f : Take k r ≡ Take k' r' = sym (next-Token k t r h) ∙ ap next e ∙ next-Token k' t' r' h' in
    let kind : k ≡ k' = cc in
    let rest : r ≡ r' = cc in
    let text : t ≡ t' = append_cancel_right t t' r (e ∙ ap (λ (x : List ℕ). t' ++ x) (sym rest)) in
    let more : ts ≡ us = Lexed-same l l' rest in
    let first : spanned size k t r ≡ spanned size k' t' r' = same-spanned size kind text rest in
    cc (first, more)

pub record SameFault (at at' : ℕ) (why why' : LexWhy) : Type 0 where
  pub at_is : at ≡ at'
  pub why_is : why ≡ why'

pub Stops-same : {size : ℕ} {text other : List ℕ} {at at' : ℕ} {why why' : LexWhy} → Stops size text at why
    → Stops size other at' why' → text ≡ other → SameFault at at' why why'
Stops-same (stuck {size = size} {rest = r} {why = w} h) (stuck {rest = r'} {why = w'} h') e =
    let f : Halt r w ≡ Halt r' w' = sym (next-Stuck h) ∙ ap next e ∙ next-Stuck h' in
    let rest : r ≡ r' = cc in
    let why : w ≡ w' = cc in
    record { at_is = ap (place size) rest; why_is = why }
Stops-same (stuck {rest = r} {why = w} h) (faults.gap {rest = b} k m) e =
    let f : Halt r w ≡ Skip b = sym (next-Stuck h) ∙ ap next e ∙ next-Gap k in absurd cc
Stops-same (stuck {rest = r} {why = w} h) (faults.token {kind = kind} {text = text} {rest = rest} k m) e =
    let f : Halt r w ≡ Take kind rest = sym (next-Stuck h) ∙ ap next e ∙ next-Token kind text rest k in absurd cc
Stops-same (faults.gap {rest = a} h l) (stuck {rest = r} {why = w} k) e =
    let f : Skip a ≡ Halt r w = sym (next-Gap h) ∙ ap next e ∙ next-Stuck k in absurd cc
Stops-same (faults.gap {rest = a} h l) (faults.gap {rest = b} k m) e =
    let f : Skip a ≡ Skip b = sym (next-Gap h) ∙ ap next e ∙ next-Gap k in
    let same : a ≡ b = cc in
    Stops-same l m same
Stops-same (faults.gap {rest = a} h l) (faults.token {kind = kind} {text = text} {rest = rest} k m) e =
    let f : Skip a ≡ Take kind rest = sym (next-Gap h) ∙ ap next e ∙ next-Token kind text rest k in absurd cc
Stops-same (faults.token {kind = kind} {text = text} {rest = rest} h l) (stuck {rest = r} {why = w} k) e =
    let f : Take kind rest ≡ Halt r w = sym (next-Token kind text rest h) ∙ ap next e ∙ next-Stuck k in absurd cc
Stops-same (faults.token {kind = kind} {text = text} {rest = rest} h l) (faults.gap {rest = b} k m) e =
    let f : Take kind rest ≡ Skip b = sym (next-Token kind text rest h) ∙ ap next e ∙ next-Gap k in absurd cc
Stops-same (faults.token {kind = k} {text = t} {rest = r} h l)
    (faults.token {kind = k'} {text = t'} {rest = r'} h' l') e =
    let f : Take k r ≡ Take k' r' = sym (next-Token k t r h) ∙ ap next e ∙ next-Token k' t' r' h' in
    let rest : r ≡ r' = cc in
    Stops-same l l' rest

-- ---- never both

pub Lexed-Stops : {size size' : ℕ} {text other : List ℕ} {ts : List Lexeme} {at : ℕ} {why : LexWhy} → Lexed size text ts
    → Stops size' other at why → text ≡ other → ⊥
Lexed-Stops ended (stuck {rest = r} {why = w} k) e = let f : NoMore ≡ Halt r w = ap next e ∙ next-Stuck k in absurd cc
Lexed-Stops ended (faults.gap {rest = b} k m) e = let f : NoMore ≡ Skip b = ap next e ∙ next-Gap k in absurd cc
Lexed-Stops ended (faults.token {kind = kind} {text = text} {rest = rest} k m) e =
    let f : NoMore ≡ Take kind rest = ap next e ∙ next-Token kind text rest k in absurd cc
Lexed-Stops (gap {rest = a} h l) (stuck {rest = r} {why = w} k) e =
    let f : Skip a ≡ Halt r w = sym (next-Gap h) ∙ ap next e ∙ next-Stuck k in absurd cc
Lexed-Stops (gap {rest = a} h l) (faults.gap {rest = b} k m) e =
    let f : Skip a ≡ Skip b = sym (next-Gap h) ∙ ap next e ∙ next-Gap k in
    let same : a ≡ b = cc in
    Lexed-Stops l m same
Lexed-Stops (gap {rest = a} h l) (faults.token {kind = kind} {text = text} {rest = rest} k m) e =
    let f : Skip a ≡ Take kind rest = sym (next-Gap h) ∙ ap next e ∙ next-Token kind text rest k in absurd cc
Lexed-Stops (token {kind = kind} {text = text} {rest = rest} h l) (stuck {rest = r} {why = w} k) e =
    let f : Take kind rest ≡ Halt r w = sym (next-Token kind text rest h) ∙ ap next e ∙ next-Stuck k in absurd cc
Lexed-Stops (token {kind = kind} {text = text} {rest = rest} h l) (faults.gap {rest = b} k m) e =
    let f : Take kind rest ≡ Skip b = sym (next-Token kind text rest h) ∙ ap next e ∙ next-Gap k in absurd cc
Lexed-Stops (token {kind = k} {text = t} {rest = r} h l) (faults.token {kind = k'} {text = t'} {rest = r'} h' l') e =
    let f : Take k r ≡ Take k' r' = sym (next-Token k t r h) ∙ ap next e ∙ next-Token k' t' r' h' in
    let rest : r ≡ r' = cc in
    Lexed-Stops l l' rest

-- ---- always one

Inside-shorter : {text rest : List ℕ} → Inside text rest → length rest ≤ length text
Inside-shorter nothing = omega arith
Inside-shorter (other c n m i) = omega (arith, Inside-shorter i)
Inside-shorter (semicolon b i) = omega (arith, Inside-shorter i)
Inside-shorter (parenthesis b i) = omega (arith, Inside-shorter i)
Inside-shorter (comment i j) = omega (arith, Inside-shorter i, Inside-shorter j)

pub Gap-shorter : {text rest : List ℕ} → Gap text rest → length rest < length text
Gap-shorter (blank c b) = omega arith
Gap-shorter (line characters {rest = rest} a e) = omega (arith, length-append characters rest)
Gap-shorter (block i) = omega (arith, Inside-shorter i)

run-some : (text : List ℕ) → text ≢ [] → 0 < length text
run-some [] n = absurd (n refl)
run-some (c ∷ text) n = omega arith

pub token-some : (kind : TokenKind) (text rest : List ℕ) → IsToken kind text rest → 0 < length text
token-some Open text rest t = omega (arith, ap length t.form)
token-some Close text rest t = omega (arith, ap length t.form)
token-some Id text rest t = run-some text t.form.some
token-some Str text rest t = omega (arith, ap length t.form.1.text_is)
token-some Word text rest t = run-some text t.form.some

abbrev Judged : ℕ → List ℕ → Type 0
Judged size text = ((ts : List Lexeme) × Lexed size text ts) ⊎ ((at : ℕ) × (why : LexWhy) × Stops size text at why)

judged-gap : {size : ℕ} {text rest : List ℕ} → Gap text rest → Judged size rest → Judged size text
judged-gap g (inl w) = inl (w.0, gap g w.1)
judged-gap g (inr w) = inr (w.0, w.1, faults.gap g w.2)

judged-token : {size : ℕ} {kind : TokenKind} {text part rest : List ℕ} → text ≡ part ++ rest → IsToken kind part rest
    → Judged size rest → Judged size text
judged-token {size} {kind} {text} {part} {rest} e t (inl w) =
    subst (Judged size) (sym e) (inl (spanned size kind part rest ∷ w.0, token t w.1))
judged-token {size} {kind} {text} {part} {rest} e t (inr w) =
    subst (Judged size) (sym e) (inr (w.0, w.1, faults.token t w.2))

judged-go : (steps size : ℕ) (text : List ℕ) → length text ≤ steps → Judged size text
judged-go zero size [] l = inl ([], ended)
judged-go zero size (c ∷ text) l = absurd (omega arith)
judged-go (suc steps) size text l = elim (outcome text) [
  | at_end e ↦ subst (Judged size) (sym e) (inl ([], ended))
  | a_gap rest g ↦ judged-gap g (judged-go steps size rest (omega (arith, l, Gap-shorter g)))
  | a_token kind rest b ↦ judged-token b.1 b.2
      (judged-go steps size rest
      (omega (arith, l, ap length b.1, length-append b.0 rest, token-some kind b.0 rest b.2)))
  | a_fault rest why s ↦ inr (place size rest, why, stuck s)
]

-- ---- whole texts

pub Lexes-same : (text : List ℕ) (ts us : List Lexeme) → Lexes text ts → Lexes text us → ts ≡ us
Lexes-same text ts us a b = Lexed-same a.lexed b.lexed refl

pub FirstFault-same : {text : List ℕ} {at at' : ℕ} {why why' : LexWhy} → FirstFault text at why
    → FirstFault text at' why' → SameFault at at' why why'
FirstFault-same (too_long l) (too_long k) = record { at_is = refl; why_is = refl }
FirstFault-same (too_long l) (not_utf8 k v) = absurd (omega (arith, l, k))
FirstFault-same (too_long l) (lexical k u s) = absurd (omega (arith, l, k))
FirstFault-same (not_utf8 l v) (too_long k) = absurd (omega (arith, l, k))
FirstFault-same (not_utf8 {text = text} {at = m} l v) (not_utf8 {at = n} k w) =
    record { at_is = IsValidUpTo-same text m n v w; why_is = refl }
FirstFault-same (not_utf8 {text = text} {at = m} l v) (lexical k u s) = absurd (not-IsUtf8 text m v u)
FirstFault-same (lexical l u s) (too_long k) = absurd (omega (arith, l, k))
FirstFault-same (lexical l u s) (not_utf8 {text = text} {at = m} k v) = absurd (not-IsUtf8 text m v u)
FirstFault-same (lexical l u s) (lexical k v t) = Stops-same s t refl

pub Lexes-FirstFault : {text : List ℕ} {ts : List Lexeme} {at : ℕ} {why : LexWhy} → Lexes text ts
    → FirstFault text at why → ⊥
Lexes-FirstFault a (too_long l) = absurd (omega (arith, l, a.short))
Lexes-FirstFault a (not_utf8 {text = text} {at = m} l v) = not-IsUtf8 text m v a.utf8
Lexes-FirstFault a (lexical l u s) = Lexed-Stops a.lexed s refl

pub always-judged : (text : List ℕ)
    → ((ts : List Lexeme) × Lexes text ts) ⊎ ((at : ℕ) × (why : LexWhy) × FirstFault text at why)
always-judged text = elim (cases_lt longest (length text)) [
  | inl l ↦ inr (longest, TooLong, too_long l)
  | inr l ↦ elim (IsUtf8-or-front text) [
    | inl u ↦ elim (judged-go (length text) (length text) text (omega arith)) [
      | inl w ↦ inl (w.0, record { short = l; utf8 = u; lexed = w.1 })
      | inr w ↦ inr (w.0, w.1, lexical l u w.2)
    ]
    | inr v ↦ inr (v.0, NotUtf8, not_utf8 l v.1)
  ]
]
