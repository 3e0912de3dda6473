-- A text denotes one module, or has one first fault.
use Rattle.std.proofs.Common.{◌≡◌, ◌⊎◌, inl, inr, ℕ, List, map, refl, subst}
use Rattle.wc_ast.specs.declared.module.Module.{Module}
use Rattle.wc_tokens.specs.declared.fault.LexWhy.{LexWhy}
use Rattle.wc_tokens.specs.Standard.Lexemes.{Lexeme, Lexes}
use Rattle.wc_tokens.specs.Standard.Faults.{FirstFault as FirstLexFault}
use Rattle.wc_tokens.proofs.Lexing.LexLaws.{Lexes-same, FirstFault-same, Lexes-FirstFault, always-judged}
use Rattle.wc_syntax.specs.declared.why.SynWhy.{SynWhy}
use Rattle.wc_surface.specs.declared.field.Field.{Field as StoredField}
use Rattle.wc_surface.specs.Standard.Written.Fields.{Field}
use Rattle.wc_parse_field.specs.Stored.Fields.{field_as}
use Rattle.wc_parse.specs.Standard.Productions.{SaysFields}
use Rattle.wc_parse.specs.Standard.Meaning.{Syn}
use Rattle.wc_parse.specs.Standard.Faults.{FirstFault as FirstSyntaxFault}
use Rattle.wc_parse.proofs.Saying.Written.{one-written}
use Rattle.wc_parse.proofs.Saying.Answering as grammar
use Rattle.wc_resolve_code.specs.declared.why.NameWhy.{NameWhy}
use Rattle.wc_meaning.specs.Standard.Denoted.{FirstFault as FirstNameFault, Means}
use Rattle.wc_meaning.proofs.Single as names
use Rattle.wc_read_text.specs.declared.fault.TextFault.{TextFault}
use Rattle.wc_read_text.specs.declared.fault.TextFault.TheVariants.{Lex, Syntax, Names, Memory}
use Rattle.wc_read_text.specs.Standard.Texts.{Txt}
use Rattle.wc_read_text.specs.Standard.Faults.{byte_of, IsSyntaxFault, IsNameFault, FirstFault}
use Rattle.wc_read_text.proofs.Stored.{in-order, as-stored}

-- ---- each stage says one thing

same-fields : (text : List ℕ) (ts us : List Lexeme) (fields others : List Field) → Lexes text ts → Lexes text us
    → SaysFields ts fields → SaysFields us others → fields ≡ others
same-fields text ts us fields others p q s t =
    one-written us fields others (subst (λ ts. SaysFields ts fields) (Lexes-same text ts us p q) s) t

-- of tokens that say fields none is a fault of the grammar
no-syntax : (text : List ℕ) (ts us : List Lexeme) (fields : List Field) (token : ℕ) (why : SynWhy) → Lexes text ts
    → Lexes text us → SaysFields ts fields → FirstSyntaxFault us token why → ⊥
no-syntax text ts us fields token why p q s f =
    let said = subst (λ ts. SaysFields ts fields) (Lexes-same text ts us p q) s in
    grammar.never-both us (map field_as fields) token why (as-stored us fields said) f

pub one-module : (text : List ℕ) (m n : Module) → Txt text m → Txt text n → m ≡ n
one-module text m n p q =
    let e = same-fields text p.tokens q.tokens p.fields q.fields p.lexes q.lexes p.says q.says in
    names.one-module q.fields m n (subst (λ fs. Means fs m) e p.means) q.means

-- ---- a module, or a fault

pub never-both : (text : List ℕ) (m : Module) (f : TextFault) → Txt text m → FirstFault text f → ⊥
never-both text m (Lex at why) p q = Lexes-FirstFault p.lexes q
never-both text m (Syntax token at why) p q =
    no-syntax text p.tokens q.tokens p.fields token why p.lexes q.lexes p.says q.first
never-both text m (Names token at why) p q =
    let e = same-fields text p.tokens q.tokens p.fields q.fields p.lexes q.lexes p.says q.says in
    names.never-both q.fields m token why (subst (λ fs. Means fs m) e p.means) q.first
never-both text m Memory p q = q

-- ---- one fault

same-lexical : (at to : ℕ) (why reason : LexWhy) → at ≡ to → why ≡ reason → Lex at why ≡ Lex to reason
same-lexical at to why reason e h = cc

same-byte : (text : List ℕ) (ts us : List Lexeme) (token other at to : ℕ) → ts ≡ us → token ≡ other
    → at ≡ byte_of text ts token → to ≡ byte_of text us other → at ≡ to
same-byte text ts us token other at to e h p q = cc

same-syntax : (token other at to : ℕ) (why reason : SynWhy) → token ≡ other → at ≡ to → why ≡ reason
    → Syntax token at why ≡ Syntax other to reason
same-syntax token other at to why reason e h k = cc

same-names : (token other at to : ℕ) (why reason : NameWhy) → token ≡ other → at ≡ to → why ≡ reason
    → Names token at why ≡ Names other to reason
same-names token other at to why reason e h k = cc

one-syntax : (text : List ℕ) (token other at to : ℕ) (why reason : SynWhy) → IsSyntaxFault text token at why
    → IsSyntaxFault text other to reason → Syntax token at why ≡ Syntax other to reason
one-syntax text token other at to why reason p q =
    let e = Lexes-same text p.tokens q.tokens p.lexes q.lexes in
    let first = subst (λ ts. FirstSyntaxFault ts token why) e p.first in
    let same = grammar.one-fault q.tokens token other why reason first q.first in
    same-syntax token other at to why reason same.0
    (same-byte text p.tokens q.tokens token other at to e same.0 p.place q.place) same.1

one-name : (text : List ℕ) (token other at to : ℕ) (why reason : NameWhy) → IsNameFault text token at why
    → IsNameFault text other to reason → Names token at why ≡ Names other to reason
one-name text token other at to why reason p q =
    let e = Lexes-same text p.tokens q.tokens p.lexes q.lexes in
    let h = same-fields text p.tokens q.tokens p.fields q.fields p.lexes q.lexes p.says q.says in
    let first = subst (λ fs. FirstNameFault fs token why) h p.first in
    let same = names.one-fault q.fields token other why reason first q.first in
    same-names token other at to why reason same.0
    (same-byte text p.tokens q.tokens token other at to e same.0 p.place q.place) same.1

-- the grammar finds no fault where the names have one
syntax-or-names : (text : List ℕ) (token other at to : ℕ) (why : SynWhy) (reason : NameWhy)
    → IsSyntaxFault text token at why → IsNameFault text other to reason → ⊥
syntax-or-names text token other at to why reason p q =
    no-syntax text q.tokens p.tokens q.fields token why q.lexes p.lexes q.says p.first

pub one-fault : (text : List ℕ) (f g : TextFault) → FirstFault text f → FirstFault text g → f ≡ g
one-fault text (Lex at why) (Lex to reason) p q =
    let same = FirstFault-same p q in same-lexical at to why reason same.at_is same.why_is
one-fault text (Lex at why) (Syntax token to reason) p q = absurd (Lexes-FirstFault q.lexes p)
one-fault text (Lex at why) (Names token to reason) p q = absurd (Lexes-FirstFault q.lexes p)
one-fault text (Syntax token at why) (Lex to reason) p q = absurd (Lexes-FirstFault p.lexes q)
one-fault text (Syntax token at why) (Syntax other to reason) p q = one-syntax text token other at to why reason p q
one-fault text (Syntax token at why) (Names other to reason) p q =
    absurd (syntax-or-names text token other at to why reason p q)
one-fault text (Names token at why) (Lex to reason) p q = absurd (Lexes-FirstFault p.lexes q)
one-fault text (Names token at why) (Syntax other to reason) p q =
    absurd (syntax-or-names text other token to at reason why q p)
one-fault text (Names token at why) (Names other to reason) p q = one-name text token other at to why reason p q
one-fault text Memory g p q = absurd p
one-fault text f Memory p q = absurd q

-- ---- always one of them

named-one : (text : List ℕ) (ts : List Lexeme) (fields : List Field) → Lexes text ts → SaysFields ts fields
    → names.Answered fields
    → ((m : Module) × Txt text m) ⊎ ((f : TextFault) × FirstFault text f)
named-one text ts fields p s (inl n) =
    inl (n.0, record { tokens = ts; fields = fields; lexes = p; says = s; means = n.1 })
named-one text ts fields p s (inr q) = inr (
  Names q.0 (byte_of text ts q.0) q.1,
  record { tokens = ts; fields = fields; lexes = p; says = s; first = q.2; place = refl },
)

parsed-one : (text : List ℕ) (ts : List Lexeme) → Lexes text ts
    → ((fields : List StoredField) × Syn ts fields) ⊎ ((at : ℕ) × (why : SynWhy) × FirstSyntaxFault ts at why)
    → ((m : Module) × Txt text m) ⊎ ((f : TextFault) × FirstFault text f)
parsed-one text ts p (inl s) = let w = s.1 in named-one text ts w.written p w.says (names.always-one w.written)
parsed-one text ts p (inr q) = inr (
  Syntax q.0 (byte_of text ts q.0) q.1,
  record { tokens = ts; lexes = p; first = q.2; place = refl },
)

lexed-one : (text : List ℕ)
    → ((ts : List Lexeme) × Lexes text ts) ⊎ ((at : ℕ) × (why : LexWhy) × FirstLexFault text at why)
    → ((m : Module) × Txt text m) ⊎ ((f : TextFault) × FirstFault text f)
lexed-one text (inl p) = parsed-one text p.0 p.1 (grammar.always-one p.0 (in-order text p.0 p.1))
lexed-one text (inr q) = inr (Lex q.0 q.1, q.2)

pub always-one : (text : List ℕ) → ((m : Module) × Txt text m) ⊎ ((f : TextFault) × FirstFault text f)
always-one text = lexed-one text (always-judged text)
