-- Imports and exports (Core 1.0, 2.5.10 and 2.5.11).
use Rattle.std.specs.Prelude.{ℕ, List}
use Rattle.wc_ast.specs.declared.import.Desc.{Desc}
use Rattle.wc_ast.specs.declared.import.Import.{Import}
use Rattle.wc_ast.specs.declared.export.Export.{Export}
use Rattle.wc_ast.specs.declared.export.ExportKind.{ExportKind}

-- what is asked for under this name, in the module of that name
abbrev pub import : List ℕ → List ℕ → Desc → Import
import m n d = record { «module» = m; name = n; desc = d }

-- what is exported under this name
abbrev pub export : List ℕ → ExportKind → ℕ → Export
export n k i = record { name = n; kind = k; index = i }

-- what an import brings
abbrev pub desc_of : Import → Desc
desc_of i = i.desc
