-- Where the tokens of a text begin.
use Rattle.std.proofs.Common.{◌≡◌, ℕ, zero, suc, ◌+◌, ◌≤◌, List, [], ◌∷◌, length, drop, refl, sym, ap, subst, ◌∙◌}
use Rattle.std.proofs.Common.{arith}
use Rattle.wc_tokens.specs.declared.fault.Stop.{Stop}
use Rattle.wc_tokens.specs.Standard.Gaps.{Gaps}
use Rattle.wc_tokens.specs.Standard.Lexemes.{Lexeme, Lexes}
use Rattle.wc_tokens.specs.Standard.Faults.{Stops, lexical}
use Rattle.wc_tokens.specs.Standard.Streams.{Unread, unread, Gives}
use Rattle.wc_tokens.proofs.Lexing.LexLaws.{Lexes-same, Lexes-FirstFault}
use Rattle.wc_tokens.proofs.Lexing.StreamLaws.{IsReading, IsReading-start, IsReading-token, IsReading-end}
use Rattle.wc_tokens.proofs.Lexing.StreamLaws.{IsReading-rest, IsReading-stop}
use Rattle.wc_read_text.specs.Standard.Faults.{start_or, byte_of}

-- whichever tokens the text has, so many of them were read
abbrev pub IsAt : List ℕ → ℕ → Unread → Type 0
IsAt text at u = (ts : List Lexeme) → Lexes text ts → IsReading text ts at u

pub at-start : (text : List ℕ) (u : Unread) → u ≡ unread text → IsAt text 0 u
at-start text u e = λ ts p.
    let w = IsReading-start text p.short in
    let lexed : Lexes text w.0 = record { short = p.short; utf8 = p.utf8; lexed = IsReading-rest w.1 p.lexed } in
    subst (λ (v : Unread). IsReading text ts 0 v) (sym e)
    (subst (λ (us : List Lexeme). IsReading text us 0 (unread text)) (Lexes-same text w.0 ts lexed p) w.1)

pub at-token : {text : List ℕ} {at : ℕ} {u v : Unread} (t : Lexeme) → IsAt text at u → Gives u t v
    → IsAt text (at + 1) v
at-token t w g = λ ts p. (IsReading-token t (w ts p) g).reading

-- the token that is read next begins there
pub at-place : {text : List ℕ} {at : ℕ} {u v : Unread} (t : Lexeme) (token : ℕ) → IsAt text at u → Gives u t v
    → at ≡ token → (ts : List Lexeme) → Lexes text ts → t.start ≡ byte_of text ts token
at-place {text} {at} t token w g e ts p =
    ap (start_or (length text)) (sym (IsReading-token t (w ts p) g).stands ∙ ap (λ (n : ℕ). drop n ts) e)

drop-more : {X : Type 0} (m n : ℕ) (xs : List X) → m ≤ n → drop m xs ≡ [] → drop n xs ≡ []
drop-more zero zero xs l e = e
drop-more zero (suc n) xs l e = rw e refl
drop-more (suc m) zero xs l e = absurd (omega arith)
drop-more (suc m) (suc n) [] l e = refl
drop-more (suc m) (suc n) (x ∷ xs) l e = drop-more m n xs (omega arith) e

-- no token is left
pub at-end : {text : List ℕ} {at : ℕ} {u : Unread} (token : ℕ) → IsAt text at u → Gaps u.rest [] → at ≤ token
    → (ts : List Lexeme) → Lexes text ts → length text ≡ byte_of text ts token
at-end {text} {at} token w g l ts p =
    ap (start_or (length text)) (sym (drop-more at token ts l (IsReading-end (w ts p) g).all))

-- a text that has tokens has no fault of its characters
pub at-fault : {text : List ℕ} {at : ℕ} {u : Unread} (stop : Stop) → IsAt text at u
    → Stops u.size u.rest stop.at stop.why → (ts : List Lexeme) → Lexes text ts → ⊥
at-fault stop w s ts p =
    Lexes-FirstFault p (lexical p.short p.utf8 (IsReading-stop stop.at stop.why (w ts p) s))
