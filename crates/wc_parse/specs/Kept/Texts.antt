-- The fields of a text, kept token by kept token (Core 1.0, 6.6.13).
use Rattle.std.specs.Prelude.{ℕ, List, [], ◌∷◌, ◌++◌}
use Rattle.wc_syntax.specs.declared.kind.Kind.TheVariants.{OtherWord}
use Rattle.wc_syntax.specs.declared.role.Role.{Role}
use Rattle.wc_syntax.specs.declared.role.Role.TheVariants as role
use Rattle.wc_surface.specs.declared.field.Field.{Field}
use Rattle.wc_parse_code.specs.declared.word.Word.{Word}
use Rattle.wc_parse.specs.declared.text_draft.TextDraft.{TextDraft}
use Rattle.wc_parse_field.specs.Drafting.Fields.{started, begun, take_string, take_word}
use Rattle.wc_parse_field.specs.Drafting.Finished.{finished}

-- a kept token: what it is to the value, the token, and what a string stands for (nothing, where it is no string)
pub record Item : Type 0 where
  pub role : Role
  pub word : Word
  pub bytes : List ℕ

-- no field so far
abbrev pub nothing : TextDraft
nothing = record { fields = []; field = started OtherWord 0 }

-- the field ends
abbrev pub with_field : TextDraft → TextDraft
with_field d = record { fields = d.fields ++ finished d.field ∷ []; field = started OtherWord 0 }

-- the field has one more part, which is no string
abbrev pub with_word : Role → Word → TextDraft → TextDraft
with_word r w d = record d { field = take_word d.field r w }

-- a field begins, ends, or has one more part
abbrev pub take_by : Role → Word → List ℕ → TextDraft → TextDraft
take_by role.Field w bytes d = record d { field = begun w.symbol.kind w.token d.field }
take_by role.FieldEnd w bytes d = with_field d
take_by role.ExportName w bytes d = record d { field = take_string d.field role.ExportName bytes }
take_by role.ModuleName w bytes d = record d { field = take_string d.field role.ModuleName bytes }
take_by role.ItemName w bytes d = record d { field = take_string d.field role.ItemName bytes }
take_by role.Bytes w bytes d = record d { field = take_string d.field role.Bytes bytes }
take_by r w bytes d = with_word r w d

-- one more kept token
abbrev pub take_item : TextDraft → Item → TextDraft
take_item d i = take_by i.role i.word i.bytes d

-- kept tokens, one after the other
abbrev pub take_items : TextDraft → List Item → TextDraft
take_items d [] = d
take_items d (i ∷ is) = take_items (take_item d i) is

-- the fields that kept tokens say
abbrev pub said : List Item → List Field
said is = (take_items nothing is).fields
