-- One more of the most usual tokens.
use Rattle.std.proofs.Common.{◌≡◌, ℕ, ◌+◌, List, [], ◌∷◌, ◌++◌, drop, Some, None, refl, sym, ap, subst}
use Rattle.wc_tokens.specs.Standard.Lexemes.{Lexeme}
use Rattle.wc_tokens.specs.declared.token.TokenKind.{TokenKind}
use Rattle.wc_tokens.specs.declared.token.TokenKind.TheVariants as token
use Rattle.wc_body.specs.Standard.Nested.{nesting_limit}
use Rattle.wc_syntax.specs.declared.kind.Kind.{Kind}
use Rattle.wc_syntax.specs.declared.kind.Kind.TheVariants as kind
use Rattle.wc_syntax.specs.declared.role.Role.{Role}
use Rattle.wc_syntax.specs.declared.role.Role.TheVariants as role
use Rattle.wc_syntax.specs.declared.place.Place.{Place}
use Rattle.wc_syntax.specs.declared.place.Place.TheVariants as place
use Rattle.wc_syntax.specs.Tables.Parts.{type_role}
use Rattle.wc_syntax.specs.Standard.Reading.{Standing, IsRead, kept_as}
use Rattle.wc_symbols.specs.declared.symbol.Symbol.{Symbol}
use Rattle.wc_symbols.specs.Standard.Symbols.{bare}
use Rattle.wc_symbols.specs.Standard.Tokens.{TokenIs}
use Rattle.wc_symbols.specs.Standard.Words.{WordIs}
use Rattle.wc_parse_code.specs.declared.word.Word.{Word}
use Rattle.wc_parse_code.specs.Standard.Tokens.{kept_token}
use Rattle.wc_parse.specs.declared.text_draft.TextDraft.{TextDraft}
use Rattle.wc_parse.specs.Kept.Texts.{take_by, with_word}
use Rattle.wc_parse.specs.Kept.Folds.{StandsFor}
use Rattle.wc_parse.specs.Kept.SaidSoFar.{IsSaid}
use Rattle.wc_parse.proofs.Saying.Said.{said-dropped, said-kept}

-- ---- what a token is whose kind says all

pub open-token : (k : TokenKind) (text : List ℕ) (o : Symbol) → k ≡ token.Open → o ≡ bare kind.Open → TokenIs k text o
open-token k text o e h = subst (λ (x : TokenKind). TokenIs x text o) (sym e) h

pub close-token : (k : TokenKind) (text : List ℕ) (o : Symbol) → k ≡ token.Close → o ≡ bare kind.Close
    → TokenIs k text o
close-token k text o e h = subst (λ (x : TokenKind). TokenIs x text o) (sym e) h

pub id-token : (k : TokenKind) (text : List ℕ) (o : Symbol) → k ≡ token.Id → o ≡ bare kind.Id → TokenIs k text o
id-token k text o e h = subst (λ (x : TokenKind). TokenIs x text o) (sym e) h

pub word-token : (k : TokenKind) (text : List ℕ) (o p : Symbol) → k ≡ token.Word → o ≡ p → WordIs text p
    → TokenIs k text o
word-token k text o p e f h =
    subst (λ (x : TokenKind). TokenIs x text o) (sym e) (subst (λ (x : Symbol). WordIs text x) (sym f) h)

-- ---- one more token

open-is : (k : TokenKind) (text : List ℕ) (o : Symbol) → k ≡ token.Open → TokenIs k text o → o ≡ bare kind.Open
open-is k text o e h = subst (λ (x : TokenKind). TokenIs x text o) e h

close-is : (k : TokenKind) (text : List ℕ) (o : Symbol) → k ≡ token.Close → TokenIs k text o → o ≡ bare kind.Close
close-is k text o e h = subst (λ (x : TokenKind). TokenIs x text o) e h

id-is : (k : TokenKind) (text : List ℕ) (o : Symbol) → k ≡ token.Id → TokenIs k text o → o ≡ bare kind.Id
id-is k text o e h = subst (λ (x : TokenKind). TokenIs x text o) e h

no-bytes : (k l : TokenKind) (text : List ℕ) → k ≡ l → StandsFor l text [] → StandsFor k text []
no-bytes k l text e h = subst (λ (x : TokenKind). StandsFor x text []) (sym e) h

pub said-open : {ts : List Lexeme} {n : ℕ} {s : Standing} {d : TextDraft} (w : IsSaid ts n s d) (t : Lexeme)
    (rest : List Lexeme)
    (o : Symbol) (s' : Standing) → drop n ts ≡ t ∷ rest → t.kind ≡ token.Open → TokenIs t.kind t.text o
    → IsRead nesting_limit (w.kinds ++ kind.Open ∷ []) (w.es ++ kept_as None n kind.Open) s' → IsSaid ts (n + 1) s' d
said-open {ts} {n} w t rest o s' e k h r =
    let q : o.kind ≡ kind.Open = ap (λ (x : Symbol). x.kind) (open-is t.kind t.text o k h) in
    said-dropped w t rest o s' e h
    (subst (λ (x : Kind). IsRead nesting_limit (w.kinds ++ x ∷ []) (w.es ++ kept_as None n x) s') (sym q) r)

pub said-end : {ts : List Lexeme} {n : ℕ} {s : Standing} {d : TextDraft} (w : IsSaid ts n s d) (t : Lexeme)
    (rest : List Lexeme)
    (o : Symbol) (s' : Standing) → drop n ts ≡ t ∷ rest → t.kind ≡ token.Close → TokenIs t.kind t.text o
    → IsRead nesting_limit (w.kinds ++ kind.Close ∷ []) (w.es ++ kept_as None n kind.Close) s' → IsSaid ts (n + 1) s' d
said-end {ts} {n} w t rest o s' e k h r =
    let q : o.kind ≡ kind.Close = ap (λ (x : Symbol). x.kind) (close-is t.kind t.text o k h) in
    said-dropped w t rest o s' e h
    (subst (λ (x : Kind). IsRead nesting_limit (w.kinds ++ x ∷ []) (w.es ++ kept_as None n x) s') (sym q) r)

pub said-kept-end : {ts : List Lexeme} {n : ℕ} {s : Standing} {d : TextDraft} (w : IsSaid ts n s d) (t : Lexeme)
    (rest : List Lexeme)
    (o : Symbol) (r : Role) (s' : Standing) (d' : TextDraft) → drop n ts ≡ t ∷ rest → t.kind ≡ token.Close
    → TokenIs t.kind t.text o
    → IsRead nesting_limit (w.kinds ++ kind.Close ∷ []) (w.es ++ kept_as (Some r) n kind.Close) s'
    → d' ≡ take_by r (kept_token n o t.text) [] d → IsSaid ts (n + 1) s' d'
said-kept-end {ts} {n} w t rest o r s' d' e k h i q =
    let c : o.kind ≡ kind.Close = ap (λ (x : Symbol). x.kind) (close-is t.kind t.text o k h) in
    said-kept w t rest o r [] s' d' e h
    (subst (λ (x : Kind). IsRead nesting_limit (w.kinds ++ x ∷ []) (w.es ++ kept_as (Some r) n x) s') (sym c) i)
    (no-bytes t.kind token.Close t.text k refl) q

pub said-word : {ts : List Lexeme} {n : ℕ} {s : Standing} {d : TextDraft} (w : IsSaid ts n s d) (t : Lexeme)
    (rest : List Lexeme)
    (o : Symbol) (r : Role) (s' : Standing) (d' : TextDraft) → drop n ts ≡ t ∷ rest → t.kind ≡ token.Word
    → TokenIs t.kind t.text o
    → IsRead nesting_limit (w.kinds ++ o.kind ∷ []) (w.es ++ kept_as (Some r) n o.kind) s'
    → d' ≡ take_by r (kept_token n o t.text) [] d → IsSaid ts (n + 1) s' d'
said-word w t rest o r s' d' e k h i q =
    said-kept w t rest o r [] s' d' e h i (no-bytes t.kind token.Word t.text k refl) q

pub said-id : {ts : List Lexeme} {n : ℕ} {s : Standing} {d : TextDraft} (w : IsSaid ts n s d) (t : Lexeme)
    (rest : List Lexeme)
    (o : Symbol) (r : Role) (s' : Standing) (d' : TextDraft) → drop n ts ≡ t ∷ rest → t.kind ≡ token.Id
    → TokenIs t.kind t.text o
    → IsRead nesting_limit (w.kinds ++ kind.Id ∷ []) (w.es ++ kept_as (Some r) n kind.Id) s'
    → d' ≡ take_by r (kept_token n o t.text) [] d → IsSaid ts (n + 1) s' d'
said-id {ts} {n} w t rest o r s' d' e k h i q =
    let c : o.kind ≡ kind.Id = ap (λ (x : Symbol). x.kind) (id-is t.kind t.text o k h) in
    said-kept w t rest o r [] s' d' e h
    (subst (λ (x : Kind). IsRead nesting_limit (w.kinds ++ x ∷ []) (w.es ++ kept_as (Some r) n x) s') (sym c) i)
    (no-bytes t.kind token.Id t.text k refl) q

-- a word of this very kind
pub said-word-of : {ts : List Lexeme} {n : ℕ} {s : Standing} {d : TextDraft} (w : IsSaid ts n s d) (t : Lexeme)
    (rest : List Lexeme)
    (o : Symbol) (x : Kind) (r : Role) (s' : Standing) (d' : TextDraft) → drop n ts ≡ t ∷ rest → t.kind ≡ token.Word
    → TokenIs t.kind t.text o → o.kind ≡ x
    → IsRead nesting_limit (w.kinds ++ x ∷ []) (w.es ++ kept_as (Some r) n x) s'
    → d' ≡ take_by r (kept_token n o t.text) [] d → IsSaid ts (n + 1) s' d'
said-word-of {ts} {n} w t rest o x r s' d' e k h f i q =
    said-word w t rest o r s' d' e k h
    (subst (λ (y : Kind). IsRead nesting_limit (w.kinds ++ y ∷ []) (w.es ++ kept_as (Some r) n y) s') (sym f) i) q

-- the type of a value is a part of a field and no string
pub type-is-word : (p : Place) (r : Role) (w : Word) (d d' : TextDraft) → Some r ≡ type_role p → d' ≡ with_word r w d
    → d' ≡ take_by r w [] d
type-is-word place.Param r w d d' e f =
    let h : role.ParamType ≡ r = cc in subst (λ (x : Role). d' ≡ with_word x w d → d' ≡ take_by x w [] d) h (λ g. g) f
type-is-word place.NamedParam r w d d' e f =
    let h : role.ParamType ≡ r = cc in subst (λ (x : Role). d' ≡ with_word x w d → d' ≡ take_by x w [] d) h (λ g. g) f
type-is-word place.ParamTypes r w d d' e f =
    let h : role.ParamType ≡ r = cc in subst (λ (x : Role). d' ≡ with_word x w d → d' ≡ take_by x w [] d) h (λ g. g) f
type-is-word place.ResultTypes r w d d' e f =
    let h : role.ResultType ≡ r = cc in subst (λ (x : Role). d' ≡ with_word x w d → d' ≡ take_by x w [] d) h (λ g. g) f
type-is-word place.Local r w d d' e f =
    let h : role.LocalType ≡ r = cc in subst (λ (x : Role). d' ≡ with_word x w d → d' ≡ take_by x w [] d) h (λ g. g) f
type-is-word place.NamedLocal r w d d' e f =
    let h : role.LocalType ≡ r = cc in subst (λ (x : Role). d' ≡ with_word x w d → d' ≡ take_by x w [] d) h (λ g. g) f
type-is-word place.LocalTypes r w d d' e f =
    let h : role.LocalType ≡ r = cc in subst (λ (x : Role). d' ≡ with_word x w d → d' ≡ take_by x w [] d) h (λ g. g) f
type-is-word _ r w d d' e f = absurd cc
