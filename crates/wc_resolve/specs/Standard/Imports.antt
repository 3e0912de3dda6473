-- Imports (Core 1.0, 6.6.4), in the order of the text: a field with an import inside is one.
use Rattle.std.specs.Prelude.{List, [], ◌∷◌}
use Rattle.std.specs.List.{flat_map}
use Rattle.wc_ast.specs.declared.import.Import.{Import}
use Rattle.wc_ast.specs.declared.import.Desc.{Desc}
use Rattle.wc_ast.specs.declared.import.Desc.TheVariants as desc
use Rattle.wc_ast.specs.declared.limits.GlobalType.{GlobalType}
use Rattle.wc_surface.specs.declared.type_use.TypeUse.{TypeUse}
use Rattle.wc_surface.specs.declared.field.Field.{Field}
use Rattle.wc_surface.specs.declared.field.Field.TheVariants as field
use Rattle.wc_surface.specs.declared.field.ImportNames.{ImportNames}
use Rattle.wc_surface.specs.declared.field.ImportDesc.{ImportDesc}
use Rattle.wc_surface.specs.declared.field.ImportDesc.TheVariants as written
use Rattle.wc_surface.specs.declared.field.FuncDesc.{FuncDesc}
use Rattle.wc_surface.specs.declared.field.FuncDesc.TheVariants as func
use Rattle.wc_surface.specs.declared.field.TableDesc.{TableDesc}
use Rattle.wc_surface.specs.declared.field.TableDesc.TheVariants as table
use Rattle.wc_surface.specs.declared.field.MemoryDesc.{MemoryDesc}
use Rattle.wc_surface.specs.declared.field.MemoryDesc.TheVariants as memory
use Rattle.wc_surface.specs.declared.field.GlobalDesc.{GlobalDesc}
use Rattle.wc_surface.specs.declared.field.GlobalDesc.TheVariants as global
use Rattle.wc_resolve_func.specs.Standard.Locals.{type_index}

-- the import of these two names and this description
abbrev pub import : ImportNames → Desc → Import
import names d = record { «module» = names.«module»; name = names.item; desc = d }

-- what an import brings
abbrev pub desc_of : List Field → ImportDesc → Desc
desc_of all (written.Func u) = desc.Func (type_index all u)
desc_of all (written.Table limits) = desc.Table limits
desc_of all (written.Memory limits) = desc.Memory limits
desc_of all (written.Global ty) = desc.Global ty

-- the import of a function field, where one stands inside
abbrev pub func_imports : List Field → TypeUse → FuncDesc → List Import
func_imports all u (func.Import names) = import names (desc.Func (type_index all u)) ∷ []
func_imports all u (func.Code locals body) = []

-- the same of a table
abbrev pub table_imports : TableDesc → List Import
table_imports (table.Import names limits) = import names (desc.Table limits) ∷ []
table_imports _ = []

-- the same of a memory
abbrev pub memory_imports : MemoryDesc → List Import
memory_imports (memory.Import names limits) = import names (desc.Memory limits) ∷ []
memory_imports _ = []

-- the same of a global
abbrev pub global_imports : GlobalType → GlobalDesc → List Import
global_imports ty (global.Import names) = import names (desc.Global ty) ∷ []
global_imports ty (global.Init body) = []

-- the import of a field of `all`, where it is one
abbrev pub field_imports : List Field → Field → List Import
field_imports all (field.Import f) = import f.names (desc_of all f.desc) ∷ []
field_imports all (field.Func f) = func_imports all f.ty f.desc
field_imports all (field.Table f) = table_imports f.desc
field_imports all (field.Memory f) = memory_imports f.desc
field_imports all (field.Global f) = global_imports f.ty f.desc
field_imports all _ = []

-- the imports of a text
abbrev pub imports_of : List Field → List Import
imports_of all = flat_map (field_imports all) all
