-- Sections (Core 1.0, 5.5.2 to 5.5.14).
use Rattle.std.specs.Prelude.{◌≢◌, ℕ, zero, suc, ◌-◌, max, nat_lt, ◌==◌, List, [], ◌∷◌, Option, Some, None, Result, Ok}
use Rattle.std.specs.Prelude.{Err, if◌then◌else◌}
use Rattle.wc_ast.specs.declared.func_type.FuncType.{FuncType}
use Rattle.wc_ast.specs.declared.limits.Limits.{Limits}
use Rattle.wc_ast.specs.declared.import.Import.{Import}
use Rattle.wc_ast.specs.declared.func.Global.{Global}
use Rattle.wc_ast.specs.declared.export.Export.{Export}
use Rattle.wc_ast.specs.declared.segment.Elem.{Elem}
use Rattle.wc_ast.specs.declared.segment.Data.{Data}
use Rattle.wc_ast.specs.declared.codes.FuncCode.{FuncCode}
use Rattle.wc_binary.specs.declared.parts.Parts.{Parts}
use Rattle.wc_binary.specs.declared.section.Section.{Section}
use Rattle.wc_binary.specs.declared.section.Section.TheVariants as sections
use Rattle.wc_binary.specs.declared.section.SectionKind.{SectionKind}
use Rattle.wc_binary.specs.declared.section.SectionKind.TheVariants as kinds
use Rattle.wc_binary.specs.declared.fault.BinWhy.{BinWhy}
use Rattle.wc_binary.specs.declared.fault.BinWhy.TheVariants.{SectionId, SectionOrder, SectionSize}
use Rattle.wc_binary.specs.Standard.Phrase.{Phrase, gives, ◌>>=◌, judged, measured}
use Rattle.wc_binary.specs.Standard.Values.{any_byte, u32, vector, name, sized}
use Rattle.wc_binary.specs.Standard.Types.{func_type, limits, table_type}
use Rattle.wc_binary.specs.Standard.Externals.{import, export}
use Rattle.wc_binary.specs.Standard.Contents.{global, elem_segment, code, data_segment}

-- so many bytes, whatever they are
abbrev pub skip : ℕ → Phrase (Unit {0})
skip zero = gives tt
skip (suc n) = any_byte >>= λ _. skip n

-- a name that is longer than the size, told at the first byte of the size
abbrev pub custom_fault : ℕ × ℕ → Option (ℕ × BinWhy)
custom_fault w = if nat_lt w.0 w.1 then Some (0, SectionSize) else None

-- a custom section behind its id: a size, and content of that size that begins with a name (5.5.3)
unfoldable pub custom : Phrase (Unit {0})
custom = do
  w ← judged (u32 >>= λ n. measured name >>= λ m. gives (n, m.0)) custom_fault
  skip (w.0 - w.1)

-- the index of the start function (5.5.11)
unfoldable pub start : Phrase (Option ℕ)
start = u32 >>= λ index. gives (Some index)

-- the id of a section (5.5.2)
abbrev pub section_id : SectionKind → ℕ
section_id kinds.Custom = 0
section_id kinds.Type = 1
section_id kinds.Import = 2
section_id kinds.Function = 3
section_id kinds.Table = 4
section_id kinds.Memory = 5
section_id kinds.Global = 6
section_id kinds.Export = 7
section_id kinds.Start = 8
section_id kinds.Element = 9
section_id kinds.Code = 10
section_id kinds.Data = 11

-- the sections that aren't custom, in their order
abbrev pub in_order : List SectionKind
in_order =
    kinds.Type ∷ kinds.Import ∷ kinds.Function ∷ kinds.Table ∷ kinds.Memory ∷ kinds.Global ∷ kinds.Export ∷ kinds.Start
    ∷ kinds.Element ∷ kinds.Code ∷ kinds.Data ∷ []

-- the first of these that has the id
abbrev pub kind_among : List SectionKind → ℕ → Option SectionKind
kind_among [] x = None
kind_among (k ∷ ks) x = if x == section_id k then Some k else kind_among ks x

-- the section of an id
abbrev pub kind_of : ℕ → Option SectionKind
kind_of x = kind_among (kinds.Custom ∷ in_order) x

-- a custom section may stand anywhere, any other behind those of lower ids
abbrev pub ordered : ℕ → ℕ → Option SectionKind → Result SectionKind BinWhy
ordered last x None = Err SectionId
ordered last x (Some kind) = if x == 0 then Ok kind else (if nat_lt last x then Ok kind else Err SectionOrder)

-- the section that a byte begins, where the last section that isn't custom has the id `last`
abbrev pub id_of : ℕ → ℕ → Result SectionKind BinWhy
id_of last x = ordered last x (kind_of x)

-- what a section holds; of a custom one nothing is kept
abbrev pub Held : SectionKind → Type 0
Held kinds.Custom = Unit {0}
Held kinds.Type = List FuncType
Held kinds.Import = List Import
Held kinds.Function = List ℕ
Held kinds.Table = List Limits
Held kinds.Memory = List Limits
Held kinds.Global = List Global
Held kinds.Export = List Export
Held kinds.Start = Option ℕ
Held kinds.Element = List Elem
Held kinds.Code = List FuncCode
Held kinds.Data = List Data

-- what stands behind the id of a section (5.5.3 to 5.5.14)
unfoldable pub behind_id : (k : SectionKind) → Phrase (Held k)
behind_id kinds.Custom = custom
behind_id kinds.Type = sized SectionSize (vector func_type)
behind_id kinds.Import = sized SectionSize (vector import)
behind_id kinds.Function = sized SectionSize (vector u32)
behind_id kinds.Table = sized SectionSize (vector table_type)
behind_id kinds.Memory = sized SectionSize (vector limits)
behind_id kinds.Global = sized SectionSize (vector global)
behind_id kinds.Export = sized SectionSize (vector export)
behind_id kinds.Start = sized SectionSize start
behind_id kinds.Element = sized SectionSize (vector elem_segment)
behind_id kinds.Code = sized SectionSize (vector code)
behind_id kinds.Data = sized SectionSize (vector data_segment)

-- what a module has of a section that is absent
abbrev pub absent : (k : SectionKind) → Held k
absent kinds.Custom = tt
absent kinds.Type = []
absent kinds.Import = []
absent kinds.Function = []
absent kinds.Table = []
absent kinds.Memory = []
absent kinds.Global = []
absent kinds.Export = []
absent kinds.Start = None
absent kinds.Element = []
absent kinds.Code = []
absent kinds.Data = []

-- what the parts have of a section
abbrev pub held_by : (k : SectionKind) → Parts → Held k
held_by kinds.Custom p = tt
held_by kinds.Type p = p.types
held_by kinds.Import p = p.imports
held_by kinds.Function p = p.func_types
held_by kinds.Table p = p.tables
held_by kinds.Memory p = p.mems
held_by kinds.Global p = p.globals
held_by kinds.Export p = p.exports
held_by kinds.Start p = p.start
held_by kinds.Element p = p.elems
held_by kinds.Code p = p.codes
held_by kinds.Data p = p.datas

-- the section that holds this
abbrev pub section_of : (k : SectionKind) → Held k → Section
section_of kinds.Custom v = sections.Custom
section_of kinds.Type v = sections.Types v
section_of kinds.Import v = sections.Imports v
section_of kinds.Function v = sections.FuncTypes v
section_of kinds.Table v = sections.Tables v
section_of kinds.Memory v = sections.Mems v
section_of kinds.Global v = sections.Globals v
section_of kinds.Export v = sections.Exports v
section_of kinds.Start v = sections.Start v
section_of kinds.Element v = sections.Elems v
section_of kinds.Code v = sections.Codes v
section_of kinds.Data v = sections.Datas v

-- the same as a section
unfoldable pub content : SectionKind → Phrase Section
content kinds.Custom = custom >>= λ _. gives sections.Custom
content k = behind_id k >>= λ v. gives (section_of k v)

-- which section it is
abbrev pub kind_in : Section → SectionKind
kind_in sections.Custom = kinds.Custom
kind_in (sections.Types v) = kinds.Type
kind_in (sections.Imports v) = kinds.Import
kind_in (sections.FuncTypes v) = kinds.Function
kind_in (sections.Tables v) = kinds.Table
kind_in (sections.Mems v) = kinds.Memory
kind_in (sections.Globals v) = kinds.Global
kind_in (sections.Exports v) = kinds.Export
kind_in (sections.Start v) = kinds.Start
kind_in (sections.Elems v) = kinds.Element
kind_in (sections.Codes v) = kinds.Code
kind_in (sections.Datas v) = kinds.Data

-- the id of a section that was read
abbrev pub number : Section → ℕ
number v = section_id (kind_in v)

-- the id of the last section that isn't custom, behind one more section
abbrev pub after : ℕ → Section → ℕ
after last v = max last (number v)

-- a section that a canonical spelling may have: one that isn't custom, and that holds something
abbrev pub Stands : Section → Type 0
Stands sections.Custom = ⊥
Stands (sections.Types v) = v ≢ []
Stands (sections.Imports v) = v ≢ []
Stands (sections.FuncTypes v) = v ≢ []
Stands (sections.Tables v) = v ≢ []
Stands (sections.Mems v) = v ≢ []
Stands (sections.Globals v) = v ≢ []
Stands (sections.Exports v) = v ≢ []
Stands (sections.Start v) = v ≢ None
Stands (sections.Elems v) = v ≢ []
Stands (sections.Codes v) = v ≢ []
Stands (sections.Datas v) = v ≢ []

-- what no section tells
abbrev pub nothing : Parts
nothing = record {
  types = [];
  imports = [];
  func_types = [];
  tables = [];
  mems = [];
  globals = [];
  exports = [];
  start = None;
  elems = [];
  codes = [];
  datas = [];
}

-- the parts with what a section holds in its place
abbrev pub put : Parts → Section → Parts
put p sections.Custom = p
put p (sections.Types v) = record p { types = v }
put p (sections.Imports v) = record p { imports = v }
put p (sections.FuncTypes v) = record p { func_types = v }
put p (sections.Tables v) = record p { tables = v }
put p (sections.Mems v) = record p { mems = v }
put p (sections.Globals v) = record p { globals = v }
put p (sections.Exports v) = record p { exports = v }
put p (sections.Start v) = record p { start = v }
put p (sections.Elems v) = record p { elems = v }
put p (sections.Codes v) = record p { codes = v }
put p (sections.Datas v) = record p { datas = v }
