-- What kept tokens add to a field, one after the other.
use Rattle.std.specs.Prelude.{◌≡◌, ℕ, Bool, true, false, List, [], ◌∷◌}
use Rattle.wc_tokens.specs.Standard.Strings.{IsString}
use Rattle.wc_syntax.specs.declared.role.Role.{Role}
use Rattle.wc_syntax.specs.declared.role.Role.TheVariants as role
use Rattle.wc_parse_code.specs.Standard.Tokens.{KeptToken}
use Rattle.wc_parse_code.specs.Standard.Productions.Tokens.{Said, ◌⊳◌}
use Rattle.wc_parse_field.specs.declared.field_draft.FieldDraft.{FieldDraft}
use Rattle.wc_parse_field.specs.Drafting.Fields.{take_word, take_string}

-- the token is a string
abbrev pub is_string : Role → Bool
is_string role.ExportName = true
is_string role.ModuleName = true
is_string role.ItemName = true
is_string role.Bytes = true
is_string _ = false

-- `Takes d us e`: of the first draft the kept tokens make the second one, strings by what they stand for
pub data Takes : FieldDraft → List Said → FieldDraft → Type 0 where
  none : {d : FieldDraft} → Takes d [] d
  word : {d e : FieldDraft} {r : Role} {w : KeptToken} {us : List Said} → is_string r ≡ false
      → Takes (take_word d r w) us e → Takes d (r ⊳ w ∷ us) e
  string : {d e : FieldDraft} {r : Role} {w : KeptToken} {us : List Said} {bytes : List ℕ} → is_string r ≡ true
      → IsString w.text bytes → Takes (take_string d r bytes) us e → Takes d (r ⊳ w ∷ us) e
