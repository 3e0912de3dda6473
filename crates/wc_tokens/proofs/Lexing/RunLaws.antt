-- What is left of a text, once gaps and tokens were read.
use Rattle.std.proofs.Common.{◌≡◌, ℕ, ◌<◌, ◌≤◌, List, [], ◌∷◌, ◌++◌, length, Result, Ok, Err, IfOk}
use Rattle.std.proofs.Common.{IfErr, IsErrAnd, MatchResult, refl, sym, ap, ◌∙◌, append_assoc}
use Rattle.std.proofs.Common.{length-append, ◌⊎◌, inl, inr, arith}
use Rattle.wc_tokens.specs.declared.token.TokenKind.{TokenKind}
use Rattle.wc_tokens.specs.declared.fault.LexWhy.{LexWhy}
use Rattle.wc_tokens.specs.Standard.Gaps.{Inside, nothing, other, semicolon, parenthesis, comment, Gap, blank}
use Rattle.wc_tokens.specs.Standard.Gaps.{line, block, Gaps, none, more}
use Rattle.wc_tokens.specs.Standard.Lexemes.{Lexeme, Lexes}
use Rattle.wc_tokens.specs.declared.fault.LexFault.{LexFault}
use Rattle.wc_tokens.specs.declared.fault.LexFault.TheVariants.{Bad, Memory}
use Rattle.wc_tokens.specs.Standard.Faults.{Stuck, character, comment_open, string_open, escape, FirstFault, IsFault}
use Rattle.wc_tokens.specs.Reading.Stops.{EndsWith, StandsIn}
use Rattle.wc_tokens.proofs.Decided.HeadLaws.{BeginsToken}
use Rattle.wc_tokens.proofs.Lexing.LexLaws.{Gap-shorter, token-some, Lexes-same, Lexes-FirstFault, FirstFault-same}

-- ---- gaps

Inside-suffix : {text rest : List ℕ} → Inside text rest → EndsWith text rest
Inside-suffix nothing = ([], refl)
Inside-suffix (other c n m i) = let w = Inside-suffix i in (c ∷ w.0, ap (λ (t : List ℕ). c ∷ t) w.1)
Inside-suffix (semicolon b i) = let w = Inside-suffix i in (59 ∷ w.0, ap (λ (t : List ℕ). 59 ∷ t) w.1)
Inside-suffix (parenthesis b i) = let w = Inside-suffix i in (40 ∷ w.0, ap (λ (t : List ℕ). 40 ∷ t) w.1)
Inside-suffix {rest = rest} (comment {inner = inner} {text = text} i j) =
    let v = Inside-suffix i in
    let w = Inside-suffix j in
    let whole : inner ≡ (v.0 ++ 59 ∷ 41 ∷ w.0) ++ rest = v.1 ∙ ap (λ (t : List ℕ). v.0 ++ 59 ∷ 41 ∷ t) w.1
    ∙ sym (append_assoc v.0 (59 ∷ 41 ∷ w.0) rest) in
    (40 ∷ 59 ∷ (v.0 ++ 59 ∷ 41 ∷ w.0), ap (λ (t : List ℕ). 40 ∷ 59 ∷ t) whole)

Gap-suffix : {text rest : List ℕ} → Gap text rest → EndsWith text rest
Gap-suffix (blank c b) = (c ∷ [], refl)
Gap-suffix (line characters a e) = (59 ∷ 59 ∷ characters, refl)
Gap-suffix (block {inside = inside} {rest = rest} i) =
    let w = Inside-suffix i in
    let whole : inside ≡ (w.0 ++ 59 ∷ 41 ∷ []) ++ rest = w.1 ∙ sym (append_assoc w.0 (59 ∷ 41 ∷ []) rest) in
    (40 ∷ 59 ∷ (w.0 ++ 59 ∷ 41 ∷ []), ap (λ (t : List ℕ). 40 ∷ 59 ∷ t) whole)

Gaps-suffix : {text rest : List ℕ} → Gaps text rest → EndsWith text rest
Gaps-suffix none = ([], refl)
Gaps-suffix {rest = rest} (more g h) =
    let v = Gap-suffix g in
    let w = Gaps-suffix h in
    (v.0 ++ w.0, v.1 ∙ ap (λ (t : List ℕ). v.0 ++ t) w.1 ∙ sym (append_assoc v.0 w.0 rest))

pub Gaps-shorter : {text rest : List ℕ} → Gaps text rest → length rest ≤ length text
Gaps-shorter none = omega arith
Gaps-shorter (more g h) = omega (arith, Gap-shorter g, Gaps-shorter h)

pub Gaps-push : {text rest behind : List ℕ} → Gaps text rest → Gap rest behind → Gaps text behind
Gaps-push none g = more g none
Gaps-push (more h i) g = more h (Gaps-push i g)

-- ---- a token

pub EndsWith-more : (text rest part after : List ℕ) → EndsWith text rest → rest ≡ part ++ after → EndsWith text after
EndsWith-more text rest part after (front, e) f =
    (front ++ part, e ∙ ap (λ (t : List ℕ). front ++ t) f ∙ sym (append_assoc front part after))

pub EndsWith-gaps : {text rest here : List ℕ} → EndsWith text rest → Gaps rest here → EndsWith text here
EndsWith-gaps {text} {rest} {here} e g = let w = Gaps-suffix g in EndsWith-more text rest w.0 here e w.1

pub EndsWith-token : (kind : TokenKind) {text rest here after : List ℕ} → EndsWith text rest → Gaps rest here
    → BeginsToken kind here after → EndsWith text after
EndsWith-token kind {text} {rest} {here} {after} e g b = EndsWith-more text here b.0 after (EndsWith-gaps e g) b.1

pub EndsWith-shorter : {text rest : List ℕ} → EndsWith text rest → length rest ≤ length text
EndsWith-shorter {text} {rest} e = omega (arith, ap length e.1, length-append e.0 rest)

abbrev pub StandsIn-token : (kind : TokenKind) {text rest here after : List ℕ} → EndsWith text rest → Gaps rest here
    → BeginsToken kind here after → StandsIn text kind here after
StandsIn-token kind e g b =
    let w = EndsWith-gaps e g in
    record { front = w.0; part = b.0; text_is = w.1; here_is = b.1; token = b.2 }

pub token-shorter : (kind : TokenKind) (rest after : List ℕ) → BeginsToken kind rest after → length after < length rest
token-shorter kind rest after b = omega (arith, ap length b.1, length-append b.0 after, token-some kind b.0 after b.2)

pub Stuck-shorter : {text rest : List ℕ} {why : LexWhy} → Stuck text rest why → length rest ≤ length text
Stuck-shorter (character c b) = omega arith
Stuck-shorter (comment_open n) = omega arith
Stuck-shorter (string_open e) = omega arith
Stuck-shorter (escape c {text = text} {rest = rest} e n) =
    omega (arith, ap length e.text_is, length-append e.body (c ∷ rest))

-- ---- what is answered is the only answer

pub lex-only : (text : List ℕ) (r : Result (List Lexeme) LexFault) → IfOk r (λ ts. Lexes text ts)
    → IfErr r (λ f. IsFault text f) → (ts : List Lexeme) → Lexes text ts → MatchResult r (λ v. v ≡ ts) (λ f. f ≡ Memory)
lex-only text (Ok v) a b ts h = Lexes-same text v ts a h
lex-only text (Err (Bad at why)) a b ts h = absurd (Lexes-FirstFault h b)
lex-only text (Err Memory) a b ts h = refl

pub lex-only-fault : (text : List ℕ) (r : Result (List Lexeme) LexFault) → IfOk r (λ ts. Lexes text ts)
    → IfErr r (λ f. IsFault text f) → (at : ℕ) (why : LexWhy) → FirstFault text at why
    → IsErrAnd r (λ f. (f ≡ Bad at why) ⊎ (f ≡ Memory))
lex-only-fault text (Ok v) a b at why h = absurd (Lexes-FirstFault a h)
lex-only-fault text (Err (Bad at' why')) a b at why h = let s = FirstFault-same b h in inl (cc (s.at_is, s.why_is))
lex-only-fault text (Err Memory) a b at why h = inr refl
