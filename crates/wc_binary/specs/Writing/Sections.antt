-- The canonical bytes of the sections of a module, and which parts have them.
use Rattle.std.specs.Prelude.{ℕ, List, [], ◌∷◌, ◌++◌}
use Rattle.wc_leb128.specs.Writing.Bytes.{unsigned_bytes}
use Rattle.wc_body.specs.Standard.ValueBytes.{Fits32}
use Rattle.wc_binary.specs.declared.parts.Parts.{Parts}
use Rattle.wc_binary.specs.declared.section.SectionKind.{SectionKind}
use Rattle.wc_binary.specs.declared.section.SectionKind.TheVariants as kinds
use Rattle.wc_binary.specs.Standard.Sections.{section_id, in_order, Held, held_by}
use Rattle.wc_binary.specs.Writing.Values.{func_type_bytes, import_bytes, table_type_bytes, limits_bytes, export_bytes}
use Rattle.wc_binary.specs.Writing.Values.{section_bytes, start_bytes, FitsFuncType, FitsImport, FitsLimits}
use Rattle.wc_binary.specs.Writing.Values.{FitsExport, FitsSection, FitsStart}
use Rattle.wc_binary.specs.Writing.Contents.{global_bytes, elem_bytes, code_bytes, data_bytes, FitsGlobal, FitsElem}
use Rattle.wc_binary.specs.Writing.Contents.{FitsCode, FitsData}

-- a section that holds this; there is none where that is nothing
abbrev pub held_bytes : (k : SectionKind) → Held k → List ℕ
held_bytes kinds.Custom v = []
held_bytes kinds.Type v = section_bytes (section_id kinds.Type) func_type_bytes v
held_bytes kinds.Import v = section_bytes (section_id kinds.Import) import_bytes v
held_bytes kinds.Function v = section_bytes (section_id kinds.Function) unsigned_bytes v
held_bytes kinds.Table v = section_bytes (section_id kinds.Table) table_type_bytes v
held_bytes kinds.Memory v = section_bytes (section_id kinds.Memory) limits_bytes v
held_bytes kinds.Global v = section_bytes (section_id kinds.Global) global_bytes v
held_bytes kinds.Export v = section_bytes (section_id kinds.Export) export_bytes v
held_bytes kinds.Start v = start_bytes (section_id kinds.Start) v
held_bytes kinds.Element v = section_bytes (section_id kinds.Element) elem_bytes v
held_bytes kinds.Code v = section_bytes (section_id kinds.Code) code_bytes v
held_bytes kinds.Data v = section_bytes (section_id kinds.Data) data_bytes v

-- what a section holds has canonical bytes
abbrev pub FitsHeld : (k : SectionKind) → Held k → Type 0
FitsHeld kinds.Custom v = Unit {0}
FitsHeld kinds.Type v = FitsSection func_type_bytes FitsFuncType v
FitsHeld kinds.Import v = FitsSection import_bytes FitsImport v
FitsHeld kinds.Function v = FitsSection unsigned_bytes Fits32 v
FitsHeld kinds.Table v = FitsSection table_type_bytes FitsLimits v
FitsHeld kinds.Memory v = FitsSection limits_bytes FitsLimits v
FitsHeld kinds.Global v = FitsSection global_bytes FitsGlobal v
FitsHeld kinds.Export v = FitsSection export_bytes FitsExport v
FitsHeld kinds.Start v = FitsStart v
FitsHeld kinds.Element v = FitsSection elem_bytes FitsElem v
FitsHeld kinds.Code v = FitsSection code_bytes FitsCode v
FitsHeld kinds.Data v = FitsSection data_bytes FitsData v

-- these sections, one after the other
abbrev pub bytes_from : Parts → List SectionKind → List ℕ
bytes_from p [] = []
bytes_from p (k ∷ ks) = held_bytes k (held_by k p) ++ bytes_from p ks

-- each of these sections has canonical bytes
abbrev pub FitsFrom : Parts → List SectionKind → Type 0
FitsFrom p [] = Unit {0}
FitsFrom p (k ∷ ks) = FitsHeld k (held_by k p) × FitsFrom p ks

-- all sections
abbrev pub sections_bytes : Parts → List ℕ
sections_bytes p = bytes_from p in_order

-- each section has canonical bytes
abbrev pub FitsSections : Parts → Type 0
FitsSections p = FitsFrom p in_order
