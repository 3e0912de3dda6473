-- What one more kept token adds to a field (Core 1.0, 6.6.2 to 6.6.12). Where it doesn't fit the field, which no text
-- of the grammar has, it adds nothing, or to a part that the field's value doesn't have.
use Rattle.std.specs.Prelude.{ℕ, List, [], ◌∷◌, ◌++◌, Bool, true, false, Option, Some, None, if◌then◌else◌}
use Rattle.std.specs.Str.{is_utf8}
use Rattle.wc_ops.specs.declared.val_type.ValType.TheVariants.{I32}
use Rattle.wc_ast.specs.declared.export.ExportKind.{ExportKind}
use Rattle.wc_ast.specs.declared.export.ExportKind.TheVariants as export
use Rattle.wc_ast.specs.declared.limits.Limits.{Limits}
use Rattle.wc_ast.specs.declared.limits.GlobalType.{GlobalType}
use Rattle.wc_syntax.specs.declared.kind.Kind.{Kind}
use Rattle.wc_syntax.specs.declared.kind.Kind.TheVariants as kind
use Rattle.wc_syntax.specs.declared.role.Role.{Role}
use Rattle.wc_syntax.specs.declared.role.Role.TheVariants as role
use Rattle.wc_symbols.specs.declared.symbol.Value.{Value}
use Rattle.wc_symbols.specs.declared.symbol.Value.TheVariants.{ValType}
use Rattle.wc_surface.specs.declared.type_use.User.TheVariants as user
use Rattle.wc_surface.specs.Standard.WrittenLocals.{local}
use Rattle.wc_parse_code.specs.declared.word.Word.{Word}
use Rattle.wc_parse_code.specs.Drafting.Words.{identifier_of, index_of, number_in}
use Rattle.wc_parse_code.specs.Drafting.Uses.{started_use, begun_use, take_use}
use Rattle.wc_parse_code.specs.Drafting.Taking.{take}
use Rattle.wc_parse_code.specs.Drafting.Ending.{nothing_said}
use Rattle.wc_parse_field.specs.declared.names.Names.{Names}
use Rattle.wc_parse_field.specs.declared.locals_draft.LocalsDraft.{LocalsDraft}
use Rattle.wc_parse_field.specs.declared.contents.Contents.{Contents}
use Rattle.wc_parse_field.specs.declared.code_draft.CodeDraft.{CodeDraft}
use Rattle.wc_parse_field.specs.declared.field_draft.FieldDraft.{FieldDraft}

-- an import field brings something; any other field only where it has the word `import`
abbrev pub first_import : Kind → ℕ → Option ℕ
first_import kind.ImportWord token = Some token
first_import _ token = None

-- no name so far; the number of the word `import`, where there is one
abbrev pub unnamed : Option ℕ → Names
unnamed imported = record { id = None; exports = []; imported = imported; «module» = []; item = [] }

-- no local so far
abbrev pub no_locals : LocalsDraft
no_locals = record { id = None; locals = [] }

-- no contents so far
abbrev pub no_contents : Contents
no_contents = record { inside = false; target = None; elements = []; bytes = [] }

-- no instruction so far
abbrev pub no_code : CodeDraft
no_code = record { begun = false; body = nothing_said }

-- limits of which nothing is said: from 0 on, without a greatest size
abbrev pub first_limits : Limits
first_limits = record { min = 0; max = None }

-- the type of a global of which nothing is said: i32, and immutable
abbrev pub first_global : GlobalType
first_global = record { ty = I32; mutable = false }

-- The field of this word and its number, of which nothing else is said yet. What stands here of parts that the grammar
-- always gives is the value of no text.
abbrev pub started : Kind → ℕ → FieldDraft
started k token = record {
  kind = k;
  token = token;
  names = unnamed (first_import k token);
  description = export.Func;
  ty = started_use user.Func token;
  locals = no_locals;
  limits = first_limits;
  global = first_global;
  contents = no_contents;
  code = no_code;
}

-- A field of this word and its number begins in a draft of which nothing is said.
abbrev pub begun : Kind → ℕ → FieldDraft → FieldDraft
begun k token d = record d {
  kind = k;
  token = token;
  names = record d.names { imported = first_import k token };
  ty = begun_use token d.ty;
}

-- a string as a name (6.3.4); in a text of the grammar each one here is UTF-8
abbrev pub name_of : List ℕ → List ℕ
name_of bytes = if is_utf8 bytes then bytes else []

-- the name of one more inline export (6.6.5 to 6.6.8)
abbrev pub with_inline_export : List ℕ → Names → Names
with_inline_export name n = record n { exports = n.exports ++ name ∷ [] }

-- the name of an export field, or of one more inline export (6.6.5 to 6.6.9)
abbrev pub with_export : Kind → List ℕ → Names → Names
with_export kind.ExportWord name n = record n { item = name }
with_export _ name n = with_inline_export name n

-- what a data segment holds, with these bytes behind it (6.6.12)
abbrev pub with_bytes : List ℕ → Contents → Contents
with_bytes bytes c = record c { bytes = c.bytes ++ bytes }

-- a string (6.6.4 to 6.6.9 and 6.6.12)
abbrev pub take_string : FieldDraft → Role → List ℕ → FieldDraft
take_string d role.ExportName bytes = record d { names = with_export d.kind (name_of bytes) d.names }
take_string d role.ModuleName bytes = record d { names = record d.names { «module» = name_of bytes } }
take_string d role.ItemName bytes = record d { names = record d.names { item = name_of bytes } }
take_string d role.Bytes bytes = record d { contents = with_bytes bytes d.contents }
take_string d _ bytes = d

-- what an import brings or an export lends (6.6.4 and 6.6.9)
abbrev pub described : Kind → ExportKind → ExportKind
described kind.FuncWord e = export.Func
described kind.TableWord e = export.Table
described kind.MemoryWord e = export.Memory
described kind.GlobalWord e = export.Global
described _ e = e

-- one more local, which has the identifier before it (6.6.5)
abbrev pub with_local : Value → ℕ → LocalsDraft → LocalsDraft
with_local (ValType t) token d = record { id = None; locals = d.locals ++ local d.id t token ∷ [] }
with_local _ token d = d

-- the type of a global's value (6.4.7)
abbrev pub with_value_type : Value → GlobalType → GlobalType
with_value_type (ValType t) g = record g { ty = t }
with_value_type _ g = g

-- the least size, in elements of a table or pages of a memory (6.4.4)
abbrev pub with_min : Option ℕ → Limits → Limits
with_min (Some n) l = record l { min = n }
with_min None l = l

-- the greatest size, in the same unit (6.4.4)
abbrev pub with_max : Option ℕ → Limits → Limits
with_max (Some n) l = record l { max = Some n }
with_max None l = l

-- a part of an instruction (6.5)
abbrev pub take_code : CodeDraft → Role → Word → CodeDraft
take_code c r w = record { begun = true; body = take c.body r w }

-- a part of the field's own type use, or of one inside of an instruction (6.6.3)
abbrev pub with_use_part : Bool → FieldDraft → Role → Word → FieldDraft
with_use_part true d r w = record d { code = take_code d.code r w }
with_use_part false d r w = record d { ty = take_use d.ty r w }

-- a part of the names (6.6.4 to 6.6.8)
abbrev pub take_name : Names → Role → Word → Names
take_name n role.FieldId w = record n { id = Some (identifier_of w) }
take_name n role.ImportWord w = record n { imported = Some w.token }
take_name n _ w = n

-- a part of the locals (6.6.5)
abbrev pub take_local : LocalsDraft → Role → Word → LocalsDraft
take_local l role.LocalId w = record l { id = Some (identifier_of w) }
take_local l role.LocalType w = with_local w.symbol.value w.token l
take_local l _ w = l

-- a part of a segment (6.6.9 to 6.6.12)
abbrev pub take_content : Contents → Role → Word → Contents
take_content c role.Segment w = record c { inside = true }
take_content c role.Target w = record c { target = Some (index_of w) }
take_content c role.Element w = record c { elements = c.elements ++ index_of w ∷ [] }
take_content c _ w = c

-- a part of the field itself
abbrev pub take_part : FieldDraft → Role → Word → FieldDraft
take_part d role.FieldId w = record d { names = take_name d.names role.FieldId w }
take_part d role.ImportWord w = record d { names = take_name d.names role.ImportWord w }
take_part d role.Description w = record d { description = described w.symbol.kind d.description }
take_part d role.LocalId w = record d { locals = take_local d.locals role.LocalId w }
take_part d role.LocalType w = record d { locals = take_local d.locals role.LocalType w }
take_part d role.LimitsMin w = record d { limits = with_min (number_in w.symbol.value) d.limits }
take_part d role.LimitsMax w = record d { limits = with_max (number_in w.symbol.value) d.limits }
take_part d role.Mutable w = record d { global = record d.global { mutable = true } }
take_part d role.GlobalType w = record d { global = with_value_type w.symbol.value d.global }
take_part d role.Segment w = record d { contents = take_content d.contents role.Segment w }
take_part d role.Target w = record d { contents = take_content d.contents role.Target w }
take_part d role.Element w = record d { contents = take_content d.contents role.Element w }
take_part d _ w = d

-- any kept token of a field but a string
abbrev pub take_word : FieldDraft → Role → Word → FieldDraft
take_word d role.Plain w = record d { code = take_code d.code role.Plain w }
take_word d role.HeldPlain w = record d { code = take_code d.code role.HeldPlain w }
take_word d role.HeldEnd w = record d { code = take_code d.code role.HeldEnd w }
take_word d role.Begin w = record d { code = take_code d.code role.Begin w }
take_word d role.HeldBegin w = record d { code = take_code d.code role.HeldBegin w }
take_word d role.Then w = record d { code = take_code d.code role.Then w }
take_word d role.Else w = record d { code = take_code d.code role.Else w }
take_word d role.End w = record d { code = take_code d.code role.End w }
take_word d role.Label w = record d { code = take_code d.code role.Label w }
take_word d role.EndLabel w = record d { code = take_code d.code role.EndLabel w }
take_word d role.Index w = record d { code = take_code d.code role.Index w }
take_word d role.MemOffset w = record d { code = take_code d.code role.MemOffset w }
take_word d role.MemAlign w = record d { code = take_code d.code role.MemAlign w }
take_word d role.Literal w = record d { code = take_code d.code role.Literal w }
take_word d role.TypeIndex w = with_use_part d.code.begun d role.TypeIndex w
take_word d role.ParamId w = with_use_part d.code.begun d role.ParamId w
take_word d role.ParamType w = with_use_part d.code.begun d role.ParamType w
take_word d role.ResultType w = with_use_part d.code.begun d role.ResultType w
take_word d r w = take_part d r w
