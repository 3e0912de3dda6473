-- The grammar of fields and of whole texts (Core 1.0, 6.6).
use Rattle.std.specs.Prelude.{ℕ}
use Rattle.wc_syntax.specs.declared.kind.Kind.TheVariants.{Close, Id, Name, Text, ModuleWord, TypeWord, ImportWord}
use Rattle.wc_syntax.specs.declared.kind.Kind.TheVariants.{FuncWord, TableWord, MemoryWord, GlobalWord, ExportWord}
use Rattle.wc_syntax.specs.declared.kind.Kind.TheVariants.{StartWord, ElemWord, DataWord, OffsetWord, FuncrefWord}
use Rattle.wc_syntax.specs.declared.role.Role.TheVariants as role
use Rattle.wc_syntax.specs.Standard.Phrases.{Phrase, Keep, ◌·◌, ◌∣◌, Many, The, token, Maybe, modulefield, offset}
use Rattle.wc_syntax.specs.Standard.Phrases.{foldedinstr, export, local, typeuse}
use Rattle.wc_syntax.specs.Standard.Types.{lp, rp, index, functype, limits, tabletype, globaltype}
use Rattle.wc_syntax.specs.Standard.Instructions.{instrs}

-- id?
abbrev pub field_id : Phrase
field_id = Maybe (Keep role.FieldId Id)

-- export = "(" "export" name ")"  (6.6.5 to 6.6.8)
abbrev pub export_body : Phrase
export_body = lp · token ExportWord · Keep role.ExportName Name · rp

-- id? export*
abbrev pub exported : Phrase
exported = field_id · Many (The export)

-- name name
abbrev pub import_names : Phrase
import_names = Keep role.ModuleName Name · Keep role.ItemName Name

-- import = "(" "import" name name ")"  (6.6.5 to 6.6.8)
abbrev pub import : Phrase
import = lp · Keep role.ImportWord ImportWord · import_names · rp

-- desc = "func" id? typeuse | "table" id? tabletype | "memory" id? limits | "global" id? globaltype  (6.6.4)
abbrev pub importdesc : Phrase
importdesc = Keep role.Description FuncWord · field_id · The typeuse
    ∣ Keep role.Description TableWord · field_id · tabletype
    ∣ Keep role.Description MemoryWord · field_id · limits
    ∣ Keep role.Description GlobalWord · field_id · globaltype

-- kind = "func" | "table" | "memory" | "global"  (6.6.9)
abbrev pub exportkind : Phrase
exportkind = Keep role.Description FuncWord ∣ Keep role.Description TableWord
    ∣ Keep role.Description MemoryWord ∣ Keep role.Description GlobalWord

-- string*: the bytes of a data segment, which need not be UTF-8
abbrev pub strings : Phrase
strings = Many (Keep role.Bytes Name ∣ Keep role.Bytes Text)

-- the functions of an element segment
abbrev pub elements : Phrase
elements = Many (index role.Element)

-- offset = "(" "offset" instr* ")" | foldedinstr  (6.6.11)
abbrev pub offset_body : ℕ → Phrase
offset_body d = lp · token OffsetWord · instrs d · rp ∣ The (foldedinstr d)

-- ")" at the end of a field
abbrev pub field_end : Phrase
field_end = Keep role.FieldEnd Close

-- what stands in a func field behind its exports: import typeuse | typeuse local* instr*  (6.6.5)
abbrev pub function : ℕ → Phrase
function d = import · The typeuse
    ∣ The typeuse · Many (The local) · instrs d

-- the same in a table field: import tabletype | tabletype | "funcref" "(" "elem" index* ")"  (6.6.6)
abbrev pub table : Phrase
table = import · tabletype
    ∣ tabletype
    ∣ token FuncrefWord · lp · Keep role.Segment ElemWord · elements · rp

-- the same in a memory field: import limits | limits | "(" "data" string* ")"  (6.6.7)
abbrev pub memory : Phrase
memory = import · limits
    ∣ limits
    ∣ lp · Keep role.Segment DataWord · strings · rp

-- the same in a global field: import globaltype | globaltype instr*  (6.6.8)
abbrev pub global : ℕ → Phrase
global d = import · globaltype
    ∣ globaltype · instrs d

-- field = "(" "type" id? functype ")"
--       | "(" "import" name name "(" desc ")" ")"
--       | "(" "func" id? export* .. ")" | "(" "table" id? export* .. ")"
--       | "(" "memory" id? export* .. ")" | "(" "global" id? export* .. ")"
--       | "(" "export" name "(" kind index ")" ")"
--       | "(" "start" index ")"
--       | "(" "elem" index? offset "func"? index* ")"
--       | "(" "data" index? offset string* ")"  (6.6.2 to 6.6.12)
abbrev pub modulefield_body : ℕ → Phrase
modulefield_body d =
    lp · Keep role.Field TypeWord · field_id · functype · field_end
    ∣ lp · Keep role.Field ImportWord · import_names · lp · importdesc · rp · field_end
    ∣ lp · Keep role.Field FuncWord · exported · function d · field_end
    ∣ lp · Keep role.Field TableWord · exported · table · field_end
    ∣ lp · Keep role.Field MemoryWord · exported · memory · field_end
    ∣ lp · Keep role.Field GlobalWord · exported · global d · field_end
    ∣ lp · Keep role.Field ExportWord · Keep role.ExportName Name · lp · exportkind · index role.Target · rp · field_end
    ∣ lp · Keep role.Field StartWord · index role.Target · field_end
    ∣ lp · Keep role.Field ElemWord · Maybe (index role.Target) · The (offset d) · Maybe (token FuncWord) · elements
    · field_end
    ∣ lp · Keep role.Field DataWord · Maybe (index role.Target) · The (offset d) · strings · field_end

-- text = "(" "module" id? field* ")" | field*  (6.6.13); the module's identifier means nothing
abbrev pub text_body : ℕ → Phrase
text_body d = lp · token ModuleWord · Maybe (token Id) · Many (The (modulefield d)) · rp
    ∣ Many (The (modulefield d))
