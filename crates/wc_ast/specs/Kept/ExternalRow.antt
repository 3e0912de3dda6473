-- What a row of imports keeps and what a row of exports does: the names of all of them, and of each the rest.
use Rattle.std.specs.Prelude.{◌≡◌, ◌+◌, ℕ, List, [], ◌∷◌, length}
use Rattle.wc_ast.specs.declared.import.Desc.{Desc}
use Rattle.wc_ast.specs.declared.import.Import.{Import}
use Rattle.wc_ast.specs.declared.export.Export.{Export}
use Rattle.wc_ast.specs.declared.exports.Exported.{Exported}
use Rattle.wc_ast.specs.Standard.Externals.{import, export}

-- the imports of two names each: the module's, and that in it
abbrev pub imports_of : List (List ℕ) → List Desc → List Import
imports_of [] ds = []
imports_of (m ∷ []) ds = []
imports_of (m ∷ n ∷ ns) [] = []
imports_of (m ∷ n ∷ ns) (d ∷ ds) = import m n d ∷ imports_of ns ds

-- there are two names for each import, and no more
abbrev pub AreImports : List (List ℕ) → List Desc → Type 0
AreImports ns ds = length ns ≡ length ds + length ds

-- the exports of these names
abbrev pub exports_of : List (List ℕ) → List Exported → List Export
exports_of [] es = []
exports_of (n ∷ ns) [] = []
exports_of (n ∷ ns) (e ∷ es) = export n e.kind e.index ∷ exports_of ns es
