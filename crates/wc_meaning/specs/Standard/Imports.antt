-- Imports (Core 1.0, 6.6.4), in the order of the text.
use Rattle.std.specs.Prelude.{List, map}
use Rattle.wc_ast.specs.declared.import.Import.{Import as ImportOf}
use Rattle.wc_ast.specs.declared.import.Desc.{Desc as DescOf}
use Rattle.wc_ast.specs.declared.import.Desc.TheVariants as binary
use Rattle.wc_surface.specs.Standard.Written.Fields.{Import, Desc, Field}
use Rattle.wc_meaning.specs.Standard.Contexts.{Context}
use Rattle.wc_meaning.specs.Standard.Uses.{use_index}
use Rattle.wc_meaning.specs.Standard.Order.{imports_in}

-- what an import brings
abbrev pub desc_of : Context → Desc → DescOf
desc_of c (Desc.func u) = binary.Func (use_index c u)
desc_of c (Desc.table l) = binary.Table l
desc_of c (Desc.memory l) = binary.Memory l
desc_of c (Desc.global g) = binary.Global g

-- an import
abbrev pub import_of : Context → Import × Desc → ImportOf
import_of c m = record { «module» = m.0.«module»; name = m.0.item; desc = desc_of c m.1 }

-- the imports of a field
abbrev pub field_imports : Context → Field → List ImportOf
field_imports c f = map (import_of c) (imports_in f)
