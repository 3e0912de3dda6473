-- What one stage answers is answered of the whole text.
use Rattle.std.proofs.Common.{◌≡◌, ◌⊎◌, inl, inr, ℕ, List}
use Rattle.std.proofs.Common.{Result, Ok, Err, IfOk, IfErr, MatchResult, IsErrAnd}
use Rattle.wc_ast.specs.declared.module.Module.{Module}
use Rattle.wc_tokens.specs.Standard.Lexemes.{Lexeme, Lexes}
use Rattle.wc_surface.specs.declared.field.Field.{Field}
use Rattle.wc_parse.specs.Standard.Wholes.{SaysText}
use Rattle.wc_resolve_code.specs.declared.why.NameWhy.{NameWhy}
use Rattle.wc_resolve.specs.Standard.Denoted.{Names as Denote, FirstFault as FirstStored}
use Rattle.wc_read_text.specs.declared.fault.TextFault.{TextFault}
use Rattle.wc_read_text.specs.declared.fault.TextFault.TheVariants.{Names, Memory}
use Rattle.wc_read_text.specs.Standard.Texts.{Txt}
use Rattle.wc_read_text.specs.Standard.Faults.{byte_of, FirstFault, IsFault}
use Rattle.wc_read_text.proofs.Stored.{stored-text, stored-named}
use Rattle.wc_read_text.proofs.Laws.{one-module, one-fault, never-both}

-- the first fault of the names
pub names-told : (text : List ℕ) (fields : List Field) (token at : ℕ) (why : NameWhy) → FirstStored fields token why
    → ((ts : List Lexeme) → Lexes text ts → at ≡ byte_of text ts token) → SaysText text fields
    → IsFault text (Names token at why)
names-told text fields token at why h p s =
    inr (stored-named text token at why (record {
      fields = fields;
      says = s;
      first = h;
      place = p s.tokens s.lexes;
    }))

-- the module
pub text-read : (text : List ℕ) (fields : List Field) (m : Module) → Denote fields m → SaysText text fields → Txt text m
text-read text fields m h s = stored-text text m (record { fields = fields; says = s; names = h })

-- ---- the only answer

pub only-module : (text : List ℕ) (r : Result Module TextFault) → IfOk r (Txt text) → IfErr r (IsFault text)
    → (m : Module) → Txt text m → MatchResult r (λ v. v ≡ m) (λ f. f ≡ Memory)
only-module text (Ok v) h g m p = one-module text v m h p
only-module text (Err f) h (inl e) m p = e
only-module text (Err f) h (inr q) m p = absurd (never-both text m f p q)

pub only-fault : (text : List ℕ) (r : Result Module TextFault) → IfOk r (Txt text) → IfErr r (IsFault text)
    → (f : TextFault) → FirstFault text f → IsErrAnd r (λ e. (e ≡ f) ⊎ (e ≡ Memory))
only-fault text (Ok v) h g f p = absurd (never-both text v f h p)
only-fault text (Err e) h (inl g) f p = inr g
only-fault text (Err e) h (inr q) f p = inl (one-fault text e f q p)
