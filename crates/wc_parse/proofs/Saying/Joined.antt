-- Kept tokens, one after the other, give just the fields that they say by the productions, as they are stored.
use Rattle.std.proofs.Common.{◌≡◌, ℕ, suc, ◌+◌, ◌≤◌, ◌^◌, Bool, true, false, List, [], ◌∷◌, ◌++◌, map, length}
use Rattle.std.proofs.Common.{refl, sym, ap, subst, ◌∙◌, append_assoc, append-nil, arith}
use Rattle.wc_tokens.specs.declared.token.TokenKind.{TokenKind}
use Rattle.wc_tokens.specs.declared.token.TokenKind.TheVariants as token
use Rattle.wc_tokens.specs.Standard.Lexemes.{Lexeme}
use Rattle.wc_tokens.specs.Standard.Strings.{IsString}
use Rattle.wc_body.specs.Standard.Nested.{nesting_limit}
use Rattle.wc_syntax.specs.declared.kind.Kind.TheVariants.{OtherWord}
use Rattle.wc_syntax.specs.declared.role.Role.{Role}
use Rattle.wc_syntax.specs.declared.role.Role.TheVariants as role
use Rattle.wc_syntax.specs.Standard.Deriving.{Event}
use Rattle.wc_surface.specs.declared.field.Field.{Field as SurfaceField}
use Rattle.wc_surface.specs.Standard.Written.Fields.{Field}
use Rattle.wc_parse_code.specs.Standard.Tokens.{KeptToken}
use Rattle.wc_parse_code.specs.Standard.Productions.Tokens.{Said, ◌⊳◌}
use Rattle.wc_parse_code.proofs.OneValue.Reading.{AllRoles}
use Rattle.wc_parse_code.proofs.Storing.Ordered.Following.{is_string as is_string_kind, FitsRole, Follow, follow-range}
use Rattle.wc_parse_code.proofs.Storing.Ordered.Following.{part}
use Rattle.wc_parse_code.proofs.Storing.Ordered.Derived.{derived-follow}
use Rattle.wc_parse_field.specs.declared.field_draft.FieldDraft.{FieldDraft}
use Rattle.wc_parse_field.specs.Drafting.Fields.{started, begun, take_word, take_string}
use Rattle.wc_parse_field.specs.Drafting.Finished.{finished}
use Rattle.wc_parse_field.specs.Drafting.Following.{is_string, Takes}
use Rattle.wc_parse_field.specs.Standard.Productions.Fields.{AreFields}
use Rattle.wc_parse_field.specs.Stored.Fields.{field_as}
use Rattle.wc_parse_field.proofs.OneValue.Cutting.{before}
use Rattle.wc_parse_field.proofs.OneValue.Fields.{field-before}
use Rattle.wc_parse_field.proofs.SomeValue.Strings.{string-form}
use Rattle.wc_parse_field.proofs.SomeValue.Parts.{Shallow}
use Rattle.wc_parse_field.proofs.SomeValue.Fields.{text-say}
use Rattle.wc_parse_field.proofs.Storing.Fields.{field-stored}
use Rattle.wc_parse.specs.declared.text_draft.TextDraft.{TextDraft}
use Rattle.wc_parse.specs.Kept.Texts.{Item, take_by, take_items}
use Rattle.wc_parse.specs.Standard.Kinds.{Each, none, more}
use Rattle.wc_parse.specs.Standard.Meaning.{Syn}
use Rattle.wc_parse.specs.Kept.Folds.{StandsFor, IsItem, Folds}
use Rattle.wc_parse.proofs.Pairs.{each-length}
use Rattle.wc_parse.proofs.Saying.Written.{said_by, items-kept, items-spoken, one-written, always-said}

-- ---- what strings stand for

-- an item of these
abbrev item : Role → KeptToken → List ℕ → Item
item r w bytes = record { role = r; word = w; bytes = bytes }

-- these kept tokens, each string with what it stands for
data Heard : List Said → List Item → Type 0 where
  stop : Heard [] []
  next : {r : Role} {w : KeptToken} {bytes : List ℕ} {us : List Said} {is : List Item}
      → (is_string r ≡ true → IsString w.text bytes) → Heard us is → Heard (r ⊳ w ∷ us) (item r w bytes ∷ is)

stands-as : (form : TokenKind) (text bytes : List ℕ) → form ≡ token.Str → StandsFor form text bytes
    → IsString text bytes
stands-as form text bytes e h = subst (λ (form : TokenKind). StandsFor form text bytes) e h

no : false ≡ true → ⊥
no e = cc

string-kind : (r : Role) (w : KeptToken) → is_string r ≡ true → FitsRole r w → is_string_kind w.symbol.kind ≡ true
string-kind role.ExportName w e f = f
string-kind role.ModuleName w e f = f
string-kind role.ItemName w e f = f
string-kind role.Bytes w e f = f
string-kind _ w e f = absurd (no e)

item-heard : {ts : List Lexeme} {e : Event} (i : Item) → IsItem ts e i → FitsRole i.role i.word
    → is_string i.role ≡ true → IsString i.word.text i.bytes
item-heard i h f s =
    let form = string-form h.lexeme.kind h.lexeme.text i.word.symbol h.symbol (string-kind i.role i.word s f) in
    subst (λ (text : List ℕ). IsString text i.bytes) (sym h.text)
    (stands-as h.lexeme.kind h.lexeme.text i.bytes form h.bytes)

items-heard : {ts : List Lexeme} {es : List Event} {is : List Item} (lo hi : ℕ) → Each (IsItem ts) es is
    → Follow lo (map said_by is) hi → Heard (map said_by is) is
items-heard lo hi none f = Heard.stop
items-heard lo hi (more {b = i} h others) f =
    Heard.next (item-heard i h f.1) (items-heard (suc i.word.token) hi others f.3)

-- ---- parts of a field

-- the field of the draft is this one
abbrev with_draft : TextDraft → FieldDraft → TextDraft
with_draft d e = record d { field = e }

string-part : (r : Role) (w : KeptToken) (bytes : List ℕ) (d : TextDraft) → is_string r ≡ true
    → take_by r w bytes d ≡ with_draft d (take_string d.field r bytes)
string-part role.ExportName w bytes d e = refl
string-part role.ModuleName w bytes d e = refl
string-part role.ItemName w bytes d e = refl
string-part role.Bytes w bytes d e = refl
string-part _ w bytes d e = absurd (no e)

wrong : true ≡ false → ⊥
wrong e = cc

word-part : (r : Role) (w : KeptToken) (bytes : List ℕ) (d : TextDraft) → before 9 r ≡ true → is_string r ≡ false
    → take_by r w bytes d ≡ with_draft d (take_word d.field r w)
word-part role.Field w bytes d e f = absurd (no e)
word-part role.FieldEnd w bytes d e f = absurd (no e)
word-part role.ExportName w bytes d e f = absurd (wrong f)
word-part role.ModuleName w bytes d e f = absurd (wrong f)
word-part role.ItemName w bytes d e f = absurd (wrong f)
word-part role.Bytes w bytes d e f = absurd (wrong f)
word-part _ w bytes d e f = refl

-- what the tokens of the field make of it, and the items of the other tokens
record Part (d : TextDraft) (us vs : List Said) (is : List Item) : Type 0 where
  field : FieldDraft
  rest : List Item
  takes : Takes d.field us field
  heard : Heard vs rest
  same : take_items d is ≡ take_items (with_draft d field) rest

one-part : (b : Bool) {d : TextDraft} {r : Role} {w : KeptToken} {bytes : List ℕ} {us vs : List Said} {is : List Item}
    → is_string r ≡ b → before 9 r ≡ true → (is_string r ≡ true → IsString w.text bytes)
    → ((e : FieldDraft) → Part (with_draft d e) us vs is) → Part d (r ⊳ w ∷ us) vs (item r w bytes ∷ is)
one-part true {d = d} {r = r} {w = w} {bytes = bytes} {is = is} e p s others =
    let o = others (take_string d.field r bytes) in
    record {
      field = o.field;
      rest = o.rest;
      takes = Takes.string e (s e) o.takes;
      heard = o.heard;
      same = ap (λ (d : TextDraft). take_items d is) (string-part r w bytes d e) ∙ o.same;
    }
one-part false {d = d} {r = r} {w = w} {bytes = bytes} {is = is} e p s others =
    let o = others (take_word d.field r w) in
    record {
      field = o.field;
      rest = o.rest;
      takes = Takes.word e o.takes;
      heard = o.heard;
      same = ap (λ (d : TextDraft). take_items d is) (word-part r w bytes d p e) ∙ o.same;
    }

parts-taken : (d : TextDraft) {us vs : List Said} {is : List Item} → AllRoles (before 9) us → Heard (us ++ vs) is
    → Part d us vs is
parts-taken d {is = is} AllRoles.none h =
    record { field = d.field; rest = is; takes = Takes.none; heard = h; same = refl }
parts-taken d (AllRoles.more {r = r} p roles) (Heard.next s h) =
    one-part (is_string r) refl p s (λ e. parts-taken (with_draft d e) roles h)

-- ---- fields

-- these fields so far
abbrev so_far : List SurfaceField → TextDraft
so_far xs = record { fields = xs; field = started OtherWord 0 }

-- the end of a field
field-ends : (xs ys : List SurfaceField) (f : SurfaceField) (e : FieldDraft) {z : KeptToken} {vs : List Said}
    {is : List Item} → finished e ≡ f
    → ((rest : List Item) → Heard vs rest → take_items (so_far (xs ++ f ∷ [])) rest ≡ so_far ((xs ++ f ∷ []) ++ ys))
    → Heard (role.FieldEnd ⊳ z ∷ vs) is → take_items (with_draft (so_far xs) e) is ≡ so_far (xs ++ f ∷ ys)
field-ends xs ys f e g others (Heard.next {is = is} s h) =
    ap (λ (f : SurfaceField). take_items (so_far (xs ++ f ∷ [])) is) g ∙ others is h
    ∙ ap so_far (append_assoc xs (f ∷ []) ys)

fields-taken : (lo hi : ℕ) {us : List Said} {fs : List Field} {is : List Item} → AreFields us fs → Follow lo us hi
    → hi ≤ 2 ^ 32 → Shallow nesting_limit fs → Heard us is → (xs : List SurfaceField)
    → take_items (so_far xs) is ≡ so_far (xs ++ map field_as fs)
fields-taken lo hi AreFields.none f small deep Heard.stop xs = ap so_far (sym (append-nil xs))
fields-taken lo hi (AreFields.more z {w = w} {us = us} {vs = vs} {f = y} {fs = ys} h others) f small deep
    (Heard.next s heard) xs =
    let start : FieldDraft = begun w.symbol.kind w.token (started OtherWord 0) in
    let taken = parts-taken (with_draft (so_far xs) start) (field-before h) heard in
    let p = part (suc w.token) hi us (role.FieldEnd ⊳ z ∷ vs) f.3 in
    let less : p.mid ≤ 2 ^ 32 = omega (arith, small, follow-range p.mid hi (role.FieldEnd ⊳ z ∷ vs) p.last) in
    taken.same
    ∙ field-ends xs (map field_as ys) (field_as y) taken.field
    (field-stored (suc w.token) p.mid h p.first less deep.0 taken.field taken.takes)
    (λ rest k. fields-taken (suc z.token) hi others p.last.3 small deep.1 k (xs ++ field_as y ∷ []))
    taken.heard

-- ---- the join

-- what tokens give they say by the productions
pub folds-say : (ts : List Lexeme) (fields : List SurfaceField) → length ts ≤ 2 ^ 32 → Folds ts fields
    → Syn ts fields
folds-say ts fields small s =
    let us = map said_by s.items in
    let are = items-spoken s.are_items in
    let f = text-say nesting_limit 0 s.kinds s.es us s.text are in
    let follow = derived-follow 0 s.kinds us s.text refl are in
    let heard = items-heard 0 (0 + length s.kinds) s.are_items follow in
    let less : 0 + length s.kinds ≤ 2 ^ 32 = omega (arith, small, each-length s.are_kinds) in
    record {
      written = f.0;
      says = record {
        kinds = s.kinds;
        are_kinds = s.are_kinds;
        es = s.es;
        text = s.text;
        words = us;
        are_kept = items-kept s.are_items;
        says = f.1;
      };
      stored = s.gives
          ∙ ap (λ (d : TextDraft). d.fields) (fields-taken 0 (0 + length s.kinds) f.1 follow less f.2 heard []);
    }

-- and the other way round
pub says-folds : (ts : List Lexeme) (fields : List SurfaceField) → length ts ≤ 2 ^ 32 → Syn ts fields
    → Folds ts fields
says-folds ts fields small s =
    let said = always-said ts s.written s.says in
    let back = folds-say ts said.0 small said.1 in
    subst (λ (fields : List SurfaceField). Folds ts fields)
    (back.stored ∙ ap (λ (fs : List Field). map field_as fs) (one-written ts back.written s.written back.says s.says)
    ∙ sym s.stored) said.1
