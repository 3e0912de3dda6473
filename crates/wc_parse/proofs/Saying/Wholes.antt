-- Whole texts say one list of fields, or have one first fault.
use Rattle.std.proofs.Common.{◌≡◌, ◌⊎◌, inl, inr, ℕ, List, refl, subst}
use Rattle.std.proofs.Common.{Result, Ok, Err, IfOk, IfErr, IsErrAnd, MatchResult}
use Rattle.wc_tokens.specs.declared.fault.LexWhy.{LexWhy}
use Rattle.wc_tokens.specs.declared.fault.Stop.{Stop}
use Rattle.wc_tokens.specs.Standard.Lexemes.{Lexeme}
use Rattle.wc_tokens.proofs.Lexing.LexLaws.{Lexes-same, FirstFault-same, Lexes-FirstFault}
use Rattle.wc_syntax.specs.declared.why.SynWhy.{SynWhy}
use Rattle.wc_surface.specs.declared.field.Field.{Field}
use Rattle.wc_parse.specs.declared.refusal.TextRefusal.{TextRefusal}
use Rattle.wc_parse.specs.declared.refusal.TextRefusal.TheVariants.{Lex, Syntax, Memory}
use Rattle.wc_parse.specs.Standard.Meaning.{Syn}
use Rattle.wc_parse.specs.Standard.Faults.{FirstFault}
use Rattle.wc_parse.specs.Standard.Wholes.{SaysText, IsUngrammatical, FirstRefusal, IsRefused}
use Rattle.wc_parse.proofs.Saying.Answering as tokens

same-fields : (text : List ℕ) (fields others : List Field) → SaysText text fields → SaysText text others
    → fields ≡ others
same-fields text fields others p q =
    tokens.one-list q.tokens fields others
    (subst (λ (ts : List Lexeme). Syn ts fields) (Lexes-same text p.tokens q.tokens p.lexes q.lexes) p.says) q.says

not-both : (text : List ℕ) (fields : List Field) (r : TextRefusal) → SaysText text fields → FirstRefusal text r → ⊥
not-both text fields (Lex stop) p q = Lexes-FirstFault p.lexes q
not-both text fields (Syntax token why) p q =
    tokens.never-both q.tokens fields token why
    (subst (λ (ts : List Lexeme). Syn ts fields) (Lexes-same text p.tokens q.tokens p.lexes q.lexes) p.says) q.first
not-both text fields Memory p q = q

abbrev stop_at : ℕ → LexWhy → Stop
stop_at at why = record { at = at; why = why }

same-stop : (s t : Stop) → s.at ≡ t.at → s.why ≡ t.why → Lex s ≡ Lex t
same-stop s t e h =
    let same : Lex (stop_at s.at s.why) ≡ Lex (stop_at t.at t.why) = rw (e, h) refl in same

same-syntax : (token other : ℕ) (why reason : SynWhy) → token ≡ other → why ≡ reason
    → Syntax token why ≡ Syntax other reason
same-syntax token other why reason e h = cc

one-place : (text : List ℕ) (token other : ℕ) (why reason : SynWhy) → IsUngrammatical text token why
    → IsUngrammatical text other reason → Syntax token why ≡ Syntax other reason
one-place text token other why reason p q =
    let same = tokens.one-fault q.tokens token other why reason
    (subst (λ (ts : List Lexeme). FirstFault ts token why) (Lexes-same text p.tokens q.tokens p.lexes q.lexes) p.first)
    q.first in
    same-syntax token other why reason same.0 same.1

same-refusal : (text : List ℕ) (r s : TextRefusal) → FirstRefusal text r → FirstRefusal text s → r ≡ s
same-refusal text (Lex a) (Lex b) p q = let same = FirstFault-same p q in same-stop a b same.at_is same.why_is
same-refusal text (Lex stop) (Syntax token why) p q = absurd (Lexes-FirstFault q.lexes p)
same-refusal text (Syntax token why) (Lex stop) p q = absurd (Lexes-FirstFault p.lexes q)
same-refusal text (Syntax token why) (Syntax other reason) p q = one-place text token other why reason p q
same-refusal text Memory s p q = absurd p
same-refusal text r Memory p q = absurd q

-- ---- so what is answered is all that could be

pub only-fields : (text : List ℕ) (r : Result (List Field) TextRefusal) → IfOk r (λ fields. SaysText text fields)
    → IfErr r (λ f. IsRefused text f) → (fields : List Field) → SaysText text fields
    → MatchResult r (λ found. found ≡ fields) (λ f. f ≡ Memory)
only-fields text (Ok found) h g fields p = same-fields text found fields h p
only-fields text (Err f) h (inl e) fields p = e
only-fields text (Err f) h (inr q) fields p = absurd (not-both text fields f p q)

pub only-refusal : (text : List ℕ) (r : Result (List Field) TextRefusal) → IfOk r (λ fields. SaysText text fields)
    → IfErr r (λ f. IsRefused text f) → (refusal : TextRefusal) → FirstRefusal text refusal
    → IsErrAnd r (λ f. (f ≡ refusal) ⊎ (f ≡ Memory))
only-refusal text (Ok found) h g refusal p = absurd (not-both text found refusal h p)
only-refusal text (Err f) h (inl e) refusal p = inr e
only-refusal text (Err f) h (inr q) refusal p = inl (same-refusal text f refusal q p)
