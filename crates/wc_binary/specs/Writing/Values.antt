-- The canonical bytes of values, types, imports, exports and sections; and which of them have any.
use Rattle.std.specs.Prelude.{ℕ, ◌<◌, ◌^◌, Bool, true, false, Option, Some, None, List, [], ◌∷◌, ◌++◌, length}
use Rattle.std.specs.Option.{is_some}
use Rattle.std.specs.Str.{IsUtf8}
use Rattle.wc_leb128.specs.Writing.Bytes.{unsigned_bytes}
use Rattle.wc_ast.specs.declared.func_type.FuncType.{FuncType}
use Rattle.wc_ast.specs.declared.limits.Limits.{Limits}
use Rattle.wc_ast.specs.declared.limits.GlobalType.{GlobalType}
use Rattle.wc_ast.specs.declared.export.ExportKind.{ExportKind}
use Rattle.wc_ast.specs.declared.export.ExportKind.TheVariants as kinds
use Rattle.wc_ast.specs.declared.export.Export.{Export}
use Rattle.wc_ast.specs.declared.import.Desc.{Desc}
use Rattle.wc_ast.specs.declared.import.Desc.TheVariants as descs
use Rattle.wc_ast.specs.declared.import.Import.{Import}
use Rattle.wc_body.specs.Standard.ValueBytes.{vector_bytes, value_type_bytes, Fits32, FitsVector}

-- a function type (5.3.3)
abbrev pub func_type_bytes : FuncType → List ℕ
func_type_bytes t = (0x60 ∷ []) ++ (vector_bytes value_type_bytes t.params ++ vector_bytes value_type_bytes t.results)

-- the maximum of limits, where there is one
abbrev pub maximum_bytes : Option ℕ → List ℕ
maximum_bytes None = []
maximum_bytes (Some n) = unsigned_bytes n

-- zero for no, one for yes
abbrev pub flag_bytes : Bool → List ℕ
flag_bytes false = 0 ∷ []
flag_bytes true = 1 ∷ []

-- limits (5.3.4)
abbrev pub limits_bytes : Limits → List ℕ
limits_bytes l = flag_bytes (is_some l.max) ++ (unsigned_bytes l.min ++ maximum_bytes l.max)

-- a table type (5.3.6)
abbrev pub table_type_bytes : Limits → List ℕ
table_type_bytes l = (0x70 ∷ []) ++ limits_bytes l

-- a global type (5.3.7)
abbrev pub global_type_bytes : GlobalType → List ℕ
global_type_bytes g = value_type_bytes g.ty ++ flag_bytes g.mutable

-- ---- imports and exports

-- a name (5.2.4)
abbrev pub name_bytes : List ℕ → List ℕ
name_bytes name = unsigned_bytes (length name) ++ name

-- the byte of an index space
abbrev pub kind_bytes : ExportKind → List ℕ
kind_bytes kinds.Func = 0 ∷ []
kind_bytes kinds.Table = 1 ∷ []
kind_bytes kinds.Memory = 2 ∷ []
kind_bytes kinds.Global = 3 ∷ []

-- what is expected of an import
abbrev pub desc_bytes : Desc → List ℕ
desc_bytes (descs.Func index) = (0 ∷ []) ++ unsigned_bytes index
desc_bytes (descs.Table l) = (1 ∷ []) ++ table_type_bytes l
desc_bytes (descs.Memory l) = (2 ∷ []) ++ limits_bytes l
desc_bytes (descs.Global g) = (3 ∷ []) ++ global_type_bytes g

-- an import (5.5.5)
abbrev pub import_bytes : Import → List ℕ
import_bytes i = name_bytes i.«module» ++ (name_bytes i.name ++ desc_bytes i.desc)

-- an export (5.5.10)
abbrev pub export_bytes : Export → List ℕ
export_bytes e = name_bytes e.name ++ (kind_bytes e.kind ++ unsigned_bytes e.index)

-- ---- sections

-- a size, and the content
abbrev pub sized_bytes : List ℕ → List ℕ
sized_bytes b = unsigned_bytes (length b) ++ b

-- an id, a size and a vector, unless it is empty
abbrev pub section_bytes : {A : Type 0} → ℕ → (A → List ℕ) → List A → List ℕ
section_bytes id w [] = []
section_bytes id w (v ∷ vs) = (id ∷ []) ++ sized_bytes (vector_bytes w (v ∷ vs))

-- the same of an index, unless there is none
abbrev pub start_bytes : ℕ → Option ℕ → List ℕ
start_bytes id None = []
start_bytes id (Some index) = (id ∷ []) ++ sized_bytes (unsigned_bytes index)

-- ---- each number, each count and each size is below 2 ^ 32

-- every value has canonical bytes
abbrev pub Anything : {A : Type 0} → A → Type 0
Anything v = Unit {0}

-- content of so few bytes that a size tells them
abbrev pub FitsSized : {A : Type 0} → (A → List ℕ) → (A → Type 0) → A → Type 0
FitsSized w Fits v = (length (w v) < 2 ^ 32) × Fits v

-- as many parameters and results as a count tells
abbrev pub FitsFuncType : FuncType → Type 0
FitsFuncType t = FitsVector Anything t.params × FitsVector Anything t.results

-- a maximum that is a number of 32 bits
abbrev pub FitsMaximum : Option ℕ → Type 0
FitsMaximum None = Unit {0}
FitsMaximum (Some n) = Fits32 n

-- limits of 32 bits
abbrev pub FitsLimits : Limits → Type 0
FitsLimits l = Fits32 l.min × FitsMaximum l.max

-- a name is UTF-8
abbrev pub FitsName : List ℕ → Type 0
FitsName name = Fits32 (length name) × IsUtf8 name

-- an index or limits of 32 bits
abbrev pub FitsDesc : Desc → Type 0
FitsDesc (descs.Func index) = Fits32 index
FitsDesc (descs.Table l) = FitsLimits l
FitsDesc (descs.Memory l) = FitsLimits l
FitsDesc (descs.Global g) = Unit {0}

-- names and what is expected
abbrev pub FitsImport : Import → Type 0
FitsImport i = FitsName i.«module» × (FitsName i.name × FitsDesc i.desc)

-- a name and an index
abbrev pub FitsExport : Export → Type 0
FitsExport e = FitsName e.name × Fits32 e.index

-- content that a size tells, unless the section is absent
abbrev pub FitsSection : {A : Type 0} → (A → List ℕ) → (A → Type 0) → List A → Type 0
FitsSection w Fits [] = Unit {0}
FitsSection w Fits (v ∷ vs) = FitsSized (vector_bytes w) (FitsVector Fits) (v ∷ vs)

-- an index of 32 bits, unless there is none
abbrev pub FitsStart : Option ℕ → Type 0
FitsStart None = Unit {0}
FitsStart (Some index) = FitsSized unsigned_bytes Fits32 index
