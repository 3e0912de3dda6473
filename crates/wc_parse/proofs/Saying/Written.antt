-- What tokens say by the productions: one list of fields, and some exactly where they say any.
use Rattle.std.proofs.Common.{◌≡◌, ℕ, List, [], ◌∷◌, map, drop, refl, sym, ap, subst, ◌∙◌}
use Rattle.wc_tokens.specs.Standard.Lexemes.{Lexeme}
use Rattle.wc_body.specs.Standard.Nested.{nesting_limit}
use Rattle.wc_syntax.specs.declared.kind.Kind.{Kind}
use Rattle.wc_syntax.specs.declared.role.Role.{Role}
use Rattle.wc_syntax.specs.Standard.Phrases.{word}
use Rattle.wc_syntax.specs.Standard.Deriving.{Event, kept, at}
use Rattle.wc_syntax.specs.Standard.Parsing.{IsText}
use Rattle.wc_syntax.proofs.Stacks.Exactness.{one-list as kinds-one-list}
use Rattle.wc_symbols.specs.Standard.Tokens.{TokenIs}
use Rattle.wc_symbols.proofs.RangeLemmas.{TokenIs-same}
use Rattle.wc_surface.specs.declared.field.Field.{Field as SurfaceField}
use Rattle.wc_surface.specs.Standard.Written.Fields.{Field}
use Rattle.wc_parse_code.specs.Standard.Tokens.{KeptToken, kept_token}
use Rattle.wc_parse_code.specs.Standard.Productions.Tokens.{Said, ◌⊳◌}
use Rattle.wc_parse_code.specs.Standard.Productions.Kept.{AreKept}
use Rattle.wc_parse_field.specs.Standard.Productions.Fields.{AreFields}
use Rattle.wc_parse_field.proofs.OneValue.Fields.{one_list}
use Rattle.wc_parse_field.proofs.SomeValue.Fields.{text-say}
use Rattle.wc_parse.specs.Kept.Texts.{Item, said}
use Rattle.wc_parse.specs.Standard.Kinds.{Each, none, more}
use Rattle.wc_parse.specs.Kept.Folds.{IsItem, Folds}
use Rattle.wc_parse.specs.Standard.Productions.{IsKept, SaysFields}
use Rattle.wc_parse.proofs.Pairs.{each-same}
use Rattle.wc_parse.proofs.Tokens.Strings.{some-meaning}
use Rattle.wc_parse.proofs.Tokens.Forms.{one-kinds}

-- ---- the kept tokens of a derivation

-- what a kept token is, in its role
abbrev pub said_by : Item → Said
said_by i = i.role ⊳ i.word

item-kept : {ts : List Lexeme} {e : Event} (i : Item) → IsItem ts e i → IsKept ts e (said_by i)
item-kept {ts} i h =
    subst (λ (e : Event). IsKept ts e (i.role ⊳ i.word)) (sym h.event) (IsKept.stands h.stands h.symbol h.text)

pub items-kept : {ts : List Lexeme} {es : List Event} {is : List Item} → Each (IsItem ts) es is
    → Each (IsKept ts) es (map said_by is)
items-kept none = none
items-kept (more {b = i} h rest) = more (item-kept i h) (items-kept rest)

-- each one is to the grammar what its text says
pub all-spoken : {ts : List Lexeme} {es : List Event} {us : List Said} → Each (IsKept ts) es us → AreKept es us
all-spoken none = AreKept.none
all-spoken (more (IsKept.stands {w = w} {t = t} s h e) rest) =
    AreKept.more (record { form = t.kind; says = subst (λ (text : List ℕ). TokenIs t.kind text w.symbol) (sym e) h })
    (all-spoken rest)

-- and so is each one with all that it says
pub items-spoken : {ts : List Lexeme} {es : List Event} {is : List Item} → Each (IsItem ts) es is
    → AreKept es (map said_by is)
items-spoken h = all-spoken (items-kept h)

-- ---- each event keeps one token

-- the token that is kept, by its parts
record Stands (ts : List Lexeme) (e : Event) (u : Said) : Type 0 where
  role : Role
  spoken : KeptToken
  lexeme : Lexeme
  rest : List Lexeme
  event : e ≡ kept role (at spoken.token (word spoken.symbol.kind))
  is : u ≡ role ⊳ spoken
  stands : drop spoken.token ts ≡ lexeme ∷ rest
  symbol : TokenIs lexeme.kind lexeme.text spoken.symbol
  text : spoken.text ≡ lexeme.text

parts-of : {ts : List Lexeme} {e : Event} {u : Said} → IsKept ts e u → Stands ts e u
parts-of (IsKept.stands s h e) = record {
  role = _;
  spoken = _;
  lexeme = _;
  rest = _;
  event = refl;
  is = refl;
  stands = s;
  symbol = h;
  text = e;
}

same-token : (v w : KeptToken) → v.token ≡ w.token → v.symbol ≡ w.symbol → v.text ≡ w.text → v ≡ w
same-token v w a b c =
    let same : kept_token v.token v.symbol v.text ≡ kept_token w.token w.symbol w.text = rw (a, b, c) refl in same

same-said : (r s : Role) {v w : KeptToken} → r ≡ s → v ≡ w → r ⊳ v ≡ s ⊳ w
same-said r s e f = cc

one-kept : (ts : List Lexeme) (e : Event) (u v : Said) → IsKept ts e u → IsKept ts e v → u ≡ v
one-kept ts e u v a b =
    let x = parts-of a in
    let y = parts-of b in
    let events : kept x.role (at x.spoken.token (word x.spoken.symbol.kind))
    ≡ kept y.role (at y.spoken.token (word y.spoken.symbol.kind)) = sym x.event ∙ y.event in
    let role : x.role ≡ y.role = cc in
    let token : x.spoken.token ≡ y.spoken.token = cc in
    let lists : x.lexeme ∷ x.rest ≡ y.lexeme ∷ y.rest =
    sym x.stands ∙ ap (λ (n : ℕ). drop n ts) token ∙ y.stands in
    let lexeme : y.lexeme ≡ x.lexeme = cc in
    let symbol : x.spoken.symbol ≡ y.spoken.symbol =
    TokenIs-same x.lexeme.kind x.lexeme.text x.spoken.symbol y.spoken.symbol x.symbol (rw (sym lexeme) y.symbol) in
    let text : x.spoken.text ≡ y.spoken.text = x.text ∙ ap (λ (t : Lexeme). t.text) (sym lexeme) ∙ sym y.text in
    x.is ∙ same-said x.role y.role role (same-token x.spoken y.spoken token symbol text) ∙ sym y.is

-- ---- one list of fields, and always some

pub one-written : (ts : List Lexeme) (fs gs : List Field) → SaysFields ts fs → SaysFields ts gs → fs ≡ gs
one-written ts fs gs v w =
    let kinds : w.kinds ≡ v.kinds = one-kinds w.are_kinds v.are_kinds in
    let es : w.es ≡ v.es = kinds-one-list nesting_limit v.kinds w.es v.es
    (subst (λ (ks : List Kind). IsText nesting_limit ks w.es) kinds w.text) v.text in
    let words : w.words ≡ v.words = each-same (one-kept ts)
    (subst (λ (es : List Event). Each (IsKept ts) es w.words) es w.are_kept) v.are_kept in
    one_list v.says (subst (λ (us : List Said). AreFields us gs) words w.says)

-- tokens that give fields say some by the productions
pub always-written : (ts : List Lexeme) (fields : List SurfaceField) → Folds ts fields
    → (fs : List Field) × SaysFields ts fs
always-written ts fields s =
    let us = map said_by s.items in
    let are = items-kept s.are_items in
    let f = text-say nesting_limit 0 s.kinds s.es us s.text (all-spoken are) in (
      f.0,
      record {
        kinds = s.kinds;
        are_kinds = s.are_kinds;
        es = s.es;
        text = s.text;
        words = us;
        are_kept = are;
        says = f.1;
      },
    )

-- kept tokens, with what strings among them stand for
some-items : {ts : List Lexeme} {es : List Event} {us : List Said} → Each (IsKept ts) es us
    → (is : List Item) × Each (IsItem ts) es is
some-items none = ([], none)
some-items (more (IsKept.stands {r = r} {w = w} {t = t} {rest = rest} s h e) others) =
    let b = some-meaning t.kind t.text w.symbol h in
    let is = some-items others in (
      record { role = r; word = w; bytes = b.0 } ∷ is.0,
      more (record { lexeme = t; rest = rest; stands = s; event = refl; symbol = h; text = e; bytes = b.1 }) is.1,
    )

-- and the other way round
pub always-said : (ts : List Lexeme) (fs : List Field) → SaysFields ts fs
    → (fields : List SurfaceField) × Folds ts fields
always-said ts fs s =
    let is = some-items s.are_kept in (
      said is.0,
      record {
        kinds = s.kinds;
        are_kinds = s.are_kinds;
        es = s.es;
        text = s.text;
        items = is.0;
        are_items = is.1;
        gives = refl;
      },
    )
